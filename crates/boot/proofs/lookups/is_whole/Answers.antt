use Rattle.boot.specs.Tables.{whole}
use native.Mathlib.Omega.{arith}
use borrow.Author.Tests.{eq-eqb, ne_eqb}
use Rattle.boot.proofs.lookups.is_whole.Goals as goal

pub nonzero_rem-table : goal.nonzero_rem-table
nonzero_rem-table c = omega (arith, c.requires)

pub returns-else-table-w-eq0 : goal.returns-else-table-w-eq0
unfolding whole
returns-else-table-w-eq0 c = rw (ne_eqb _ _ c.if-table-w-eq0.false)

pub nonzero_div-result : goal.nonzero_div-result
nonzero_div-result c = omega (arith, c.requires)

pub returns-then-table-w-eq0 : goal.returns-then-table-w-eq0
unfolding whole
returns-then-table-w-eq0 c = rw (eq-eqb _ _ c.if-table-w-eq0.true)
