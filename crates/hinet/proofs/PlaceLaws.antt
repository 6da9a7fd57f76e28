-- The place of numbers that are too large for their types.
use Prim.Native.Nat.{ℕ, min, ◌<◌}
use native.Mathlib.Omega.{arith}
use mathlib.Core.Path.{◌≡◌, sym, ap, ◌∙◌}
use mathlib.Core.Bool.{true, false}
use mathlib.Core.Logic.{◌⊎◌, inl, inr, ⊎_elim}
use mathlib.Core.List.{List}
use lib.Dec.{eqb, ltb}
use borrow.Author.Tests.{eqb-true, ltb-true, ltb-false}
use Rattle.rows.proofs.BoolLaws.{by_test, and_left, and_right}
use Rattle.rows.proofs.IndexLaws.{none_from, first_below}
use Rattle.terms.specs.declared.Address.{Address}
use Rattle.site.specs.declared.PartitionRow.{PartitionRow}
use Rattle.site.specs.Layout.{partitions, partition_row}
use Rattle.site.specs.Rules.{sectors, ranged, numbered, partition_numbered, good_site}
use Rattle.site.specs.Found.{index_of_number}
use Rattle.site.specs.Places.{At, inside, refused, placed_on, placed_in, placed_by}
use Rattle.site.proofs.RuleLaws.{ranged_is, site_partition}
use Rattle.site.proofs.PlaceLaws.{inside_is}
use Rattle.hinet.specs.Entries.{address_of}
use Rattle.hinet.specs.FrameEntries.{fields_for}

-- a track or sector inside a partition is small
small_inside : (r : PartitionRow) (v p t x : ℕ) → ranged r ≡ true → inside r (address_of v p t x) ≡ true → (t < 65535) × (x < 255)
unfolding address_of sectors
small_inside r v p t x g h =
    let i = inside_is r (address_of v p t x) h in
    (omega (arith, i.track, (ranged_is r g).ends), omega (arith, i.most))

-- a track and a sector, and the largest ones in the place of those that are too large, on one row
module _ (v p t x : ℕ) where
  abbrev asked : Address
  asked = address_of v p t x

  abbrev held : Address
  held = address_of v p (min t 65535) (min x 255)

  small_same : t < 65536 → x < 256 → held ≡ asked
  small_same h k =
      let track : min t 65535 ≡ t = omega arith in
      let sector : min x 255 ≡ x = omega arith in
      rw (track, sector)

  held_on : (r : PartitionRow) → ranged r ≡ true → placed_on r held ≡ placed_on r asked
  unfolding placed_on
  held_on r g = by_test (inside r asked)
      (λ y. let i = small_inside r v p t x g y in ap (placed_on r) (small_same (omega (arith, i.0)) (omega (arith, i.1))))
      (λ n. by_test (inside r held)
      (λ y. let i = small_inside r v p (min t 65535) (min x 255) g y in ap (placed_on r) (small_same (omega (arith, i.0)) (omega (arith, i.1))))
      (λ m. rw (n, m)))

module _ (s : List ℕ) (good : good_site s ≡ true) where
  -- rows have volumes up to 3 and numbers up to 63
  none_numbered : (v p : ℕ) → (3 < v) ⊎ (63 < p) → (i : ℕ) → i < partitions s → partition_numbered s (record { 0 = v }) (record { 0 = p }) i ≡ false
  unfolding partition_numbered numbered
  none_numbered v p large i l =
      let r = ranged_is (partition_row s i) (site_partition s good i l).range in
      by_test (numbered (record { 0 = v }) (record { 0 = p }) (partition_row s i))
      (λ y.
      let q = eqb (partition_row s i).volume.0 v in
      let q' = eqb (partition_row s i).partition.0 p in
      let e : (partition_row s i).volume.0 ≡ v = eqb-true _ _ (and_left q q' y) in
      let e' : (partition_row s i).partition.0 ≡ p = eqb-true _ _ (and_right q q' y) in
      absurd (⊎_elim (λ b. omega (arith, r.volume)) (λ b. omega (arith, r.partition)) large))
      (λ n. n)

  none_placed : (v p t x : ℕ) → (3 < v) ⊎ (63 < p) → placed_in s (address_of v p t x) ≡ refused 8
  unfolding placed_in address_of index_of_number
  none_placed v p t x large = rw (first_below _ (partitions s) ∙ none_from _ (partitions s) (none_numbered v p large))

  row_held : (v p t x : ℕ) → placed_in s (held v p t x) ≡ placed_in s (asked v p t x)
  unfolding placed_in address_of
  row_held v p t x = by_test (ltb (index_of_number s (record { 0 = v }) (record { 0 = p })) (partitions s))
      (λ y. rw y (held_on v p t x _ (site_partition s good _ (ltb-true _ _ y)).range))
      (λ n. rw n)

  -- a volume or a partition that is too large names no row, and neither does the largest byte
  all_held : (v p t x : ℕ) → placed_in s (fields_for v p t x) ≡ placed_in s (asked v p t x)
  unfolding fields_for
  all_held v p t x = by_test (ltb v 256)
      (λ a. by_test (ltb p 256)
      (λ b.
      let volume : min v 255 ≡ v = omega (arith, ltb-true v 256 a) in
      let partition : min p 255 ≡ p = omega (arith, ltb-true p 256 b) in
      rw (volume, partition) (row_held v p t x))
      (λ b. let large = ltb-false p 256 b in none_placed _ _ _ _ (inr (omega arith)) ∙ sym (none_placed v p t x (inr (omega arith)))))
      (λ a. let large = ltb-false v 256 a in none_placed _ _ _ _ (inl (omega arith)) ∙ sym (none_placed v p t x (inl (omega arith))))

-- the numbers as the fields of a frame hold them have the place that the numbers have
pub fields_placed : (s : List ℕ) (v p t x : ℕ) → placed_by s (fields_for v p t x) ≡ placed_by s (address_of v p t x)
unfolding placed_by
fields_placed s v p t x = by_test (good_site s) (λ y. rw y (ap At (all_held s y v p t x))) (λ n. rw n)
