use Rattle.site.proofs.PlaceLaws.{place_ends}
use Rattle.site.proofs.RuleLaws.{ranged_is}
use Rattle.site.specs.Places.{refused, inside, place_on, placed_on}
use mathlib.Core.Path.{refl, sym, ◌∙◌}
use native.Mathlib.Omega.{arith}
use Rattle.site.proofs.place_on.Goals as goal

pub is_inside-requires : goal.is_inside-requires
is_inside-requires c = let r = ranged_is _ c.requires in (r.least, r.most)

pub returns-then-not-is_inside : goal.returns-then-not-is_inside
unfolding placed_on inside refused
returns-then-not-is_inside c = rw (sym c.is_inside.ensures ∙ c.if-not-is_inside.true) refl

pub overflow_mul-result : goal.overflow_mul-result
unfolding inside
overflow_mul-result c = omega (arith, place_ends c.args.row c.args.address c.requires (sym c.is_inside.ensures ∙ c.if-not-is_inside.false))

pub overflow_add-result : goal.overflow_add-result
unfolding inside
overflow_add-result c = omega (arith, place_ends c.args.row c.args.address c.requires (sym c.is_inside.ensures ∙ c.if-not-is_inside.false))

pub overflow_add-result-2 : goal.overflow_add-result-2
unfolding inside
overflow_add-result-2 c = omega (arith, place_ends c.args.row c.args.address c.requires (sym c.is_inside.ensures ∙ c.if-not-is_inside.false))

pub overflow_sub-result : goal.overflow_sub-result
unfolding inside
overflow_sub-result c = omega (arith, place_ends c.args.row c.args.address c.requires (sym c.is_inside.ensures ∙ c.if-not-is_inside.false))

pub returns : goal.returns
unfolding placed_on place_on inside
returns c = rw (sym c.is_inside.ensures ∙ c.if-not-is_inside.false, c.from-track.ensures, c.from-sector.ensures) (refl, refl)
