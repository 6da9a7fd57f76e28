use Rattle.rows.proofs.IndexLaws.{pass_on, pass_breaks}
use Rattle.rows.proofs.MarkLaws.{mark_adds}
use mathlib.Core.Path.{sym, ◌∙◌}
use native.Mathlib.Omega.{arith}
use Rattle.terms.proofs.table.Table.rows_alone.Goals as goal

pub returns-then-not-row_alone : goal.returns-then-not-row_alone
returns-then-not-row_alone c = pass_breaks _ _ c.loop-i-test.true (sym c.row_alone.ensures ∙ c.if-not-row_alone.true)

pub loop-i-preserved : goal.loop-i-preserved
loop-i-preserved c = (
  pass_on _ _ c.loop-i.invariant.0 c.loop-i-test.true (sym c.row_alone.ensures ∙ c.if-not-row_alone.false),
  mark_adds _ _ _ c.loop-i.invariant.1 c.hash_of.ensures.0 (omega (arith, c.hash_of.ensures.1)) c.mark-seen.ensures.1,
)
