use Rattle.site.proofs.RuleLaws.{ranged_is}
use Rattle.site.specs.Shortcuts.{past, passing}
use native.Mathlib.Omega.{arith}
use Rattle.site.proofs.overlaps.pass.Goals as goal

pub sectors-requires : goal.sectors-requires
sectors-requires c = let r = ranged_is _ c.requires in (r.least, r.most)

pub overflow_add-end : goal.overflow_add-end
overflow_add-end c = omega (arith, (ranged_is _ c.requires).ends, c.sectors.ensures.0)

pub bounds-ends-volume : goal.bounds-ends-volume
bounds-ends-volume c = omega (arith, (ranged_is _ c.requires).volume, c.from-volume.ensures)

pub bounds-ends-volume-2 : goal.bounds-ends-volume-2
bounds-ends-volume-2 c = omega (arith, (ranged_is _ c.requires).volume, c.from-volume.ensures)

pub returns : goal.returns
unfolding past passing
returns c = (rw c.from-volume.ensures, rw (c.max.ensures, c.sectors.ensures.0, c.from-volume.ensures))
