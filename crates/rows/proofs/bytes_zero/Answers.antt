use Rattle.rows.proofs.IndexLaws.{pass_starts, pass_on, pass_breaks, pass_ends}
use Rattle.rows.specs.Words.{zeros, zero_at}
use borrow.Author.Tests.{eq-eqb, ne_eqb}
use Rattle.rows.proofs.bytes_zero.Goals as goal

pub loop-b-init : goal.loop-b-init
loop-b-init c = pass_starts _ _

pub returns-then-b-ne0 : goal.returns-then-b-ne0
unfolding zeros zero_at
returns-then-b-ne0 c = pass_breaks _ _ c.loop-b-test.true (ne_eqb _ _ c.if-b-ne0.true)

pub loop-b-preserved : goal.loop-b-preserved
unfolding zero_at
loop-b-preserved c = pass_on _ _ c.loop-b.invariant c.loop-b-test.true (eq-eqb _ _ c.if-b-ne0.false)

pub returns : goal.returns
unfolding zeros
returns c = pass_ends _ _ c.loop-b.invariant c.loop-b-test.false
