use Rattle.site.proofs.RuleLaws.{site_partition}
use Rattle.site.specs.Places.{placed_in, refused}
use Rattle.site.specs.Layout.{partitions}
use Rattle.site.specs.Found.{index_of_number}
use Prim.Native.Nat.{◌≤◌}
use borrow.Author.Tests.{lt-ltb, le-ltb}
use mathlib.Core.Path.{refl, sym}
use native.Mathlib.Omega.{arith}
use Rattle.site.proofs.Site.place_in.Goals as goal

pub place_on-requires : goal.place_on-requires
place_on-requires c =
    rw c.partition_row.ensures.answer (site_partition c.args.self.now.file.now c.args.self.now.good c.in-Some.i c.in-Some.ensures.1).range

pub returns-in-Some : goal.returns-in-Some
unfolding placed_in
returns-in-Some c =
    rw (sym c.in-Some.ensures.0, lt-ltb _ _ c.in-Some.ensures.1) (rw c.partition_row.ensures.answer at c.place_on.ensures)

pub returns-in-None : goal.returns-in-None
unfolding placed_in refused
returns-in-None c =
    let a = c.args in
    let past : partitions a.self.now.file.now ≤ index_of_number a.self.now.file.now a.address.volume a.address.partition = omega (arith, c.in-None.ensures) in
    rw (le-ltb _ _ past) refl
