use Rattle.rows.proofs.IndexLaws.{pass_starts, pass_on, pass_breaks, pass_ends}
use Rattle.rows.specs.Words.{same, same_at}
use borrow.Author.Tests.{eq-eqb, ne_eqb}
use mathlib.Core.Path.{sym}
use Rattle.rows.proofs.bytes_same.Goals as goal

pub loop-k-init : goal.loop-k-init
loop-k-init c = pass_starts _ _

pub returns-then-a-k : goal.returns-then-a-k
unfolding same same_at
returns-then-a-k c = rw (eq-eqb _ _ (sym c.requires)) (pass_breaks _ _ c.loop-k-test.true (ne_eqb _ _ c.if-a-k.true))

pub loop-k-preserved : goal.loop-k-preserved
unfolding same_at
loop-k-preserved c = pass_on _ _ c.loop-k.invariant c.loop-k-test.true (eq-eqb _ _ c.if-a-k.false)

pub returns : goal.returns
unfolding same
returns c = rw (eq-eqb _ _ (sym c.requires)) (pass_ends _ _ c.loop-k.invariant c.loop-k-test.false)
