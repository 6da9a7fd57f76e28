use Rattle.site.proofs.RuleLaws.{ranged_is}
use Rattle.site.specs.Layout.{row_at}
use Rattle.site.specs.Rules.{meet}
use borrow.Author.Tests.{le-ltb, lt-ltb}
use native.Mathlib.Omega.{arith}
use Rattle.site.proofs.search.rows_meet.Goals as goal

pub sectors-requires : goal.sectors-requires
unfolding row_at
sectors-requires c = let r = ranged_is _ c.requires.a_value.1 in (r.least, r.most)

pub overflow_add-first_b : goal.overflow_add-first_b
unfolding row_at
overflow_add-first_b c = omega (arith, (ranged_is _ c.requires.a_value.1).ends, c.low_first_at-first_b.ensures, c.sectors.ensures.0)

pub returns-then-first_b-sectors : goal.returns-then-first_b-sectors
unfolding meet row_at
returns-then-first_b-sectors c =
    rw (le-ltb _ _ (rw (c.sectors.ensures.0, c.low_first_at-first_b.ensures, c.low_first_at-first_a.ensures) at c.if-first_b-sectors.true))

pub sectors-requires-2 : goal.sectors-requires-2
unfolding row_at
sectors-requires-2 c = let r = ranged_is _ c.requires.a_value.0 in (r.least, r.most)

pub overflow_add-result : goal.overflow_add-result
unfolding row_at
overflow_add-result c = omega (arith, (ranged_is _ c.requires.a_value.0).ends, c.low_first_at-first_a.ensures, c.sectors-2.ensures.0)

pub returns : goal.returns
unfolding meet row_at
returns c =
    rw (lt-ltb _ _ (rw (c.sectors.ensures.0, c.low_first_at-first_b.ensures, c.low_first_at-first_a.ensures) at c.if-first_b-sectors.false), c.low_first_at-first_b.ensures, c.low_first_at-first_a.ensures, c.sectors-2.ensures.0)
