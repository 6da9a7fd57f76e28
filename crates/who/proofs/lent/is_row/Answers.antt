use Rattle.who.specs.Good.{is_row}
use Rattle.rows.proofs.IndexLaws.{pass_breaks, pass_ends}
use borrow.Author.Tests.{eq-eqb}
use mathlib.Core.Path.{sym, ◌∙◌}
use Rattle.who.proofs.lent.is_row.Goals as goal

pub returns-then-not-is_flagged : goal.returns-then-not-is_flagged
unfolding is_row
returns-then-not-is_flagged c = record { answer = rw (eq-eqb _ _ c.if-records-ne-BYTES.false) (pass_breaks _ _ c.loop-n-test.true (sym c.is_flagged.ensures ∙ c.if-not-is_flagged.true)) }

pub returns : goal.returns
unfolding is_row
returns c = record { answer = rw (eq-eqb _ _ c.if-records-ne-BYTES.false) (pass_ends _ _ c.loop-n.invariant c.loop-n-test.false) }
