-- Two different valid addresses never reach one sector.
use Rattle.std.specs.Prelude.{Result, Ok}
use Prim.Native.Nat.{ℕ, ◌+◌, ◌-◌, ◌*◌, ◌<◌}
use native.Mathlib.Omega.{arith}
use mathlib.Core.Path.{◌≡◌, sym, ap, ◌∙◌, subst}
use mathlib.Core.Bool.{true, cond}
use mathlib.Core.List.{List}
use lib.Dec.{eqb, ltb}
use borrow.Author.Tests.{eqb-true, ltb-true, ltb-false, lt-ltb, eq-eqb, not-true}
use Rattle.rows.specs.Outcomes.{Gives}
use Rattle.rows.proofs.BoolLaws.{by_test, by_eq, both, and_left, and_right, and_both}
use Rattle.rows.proofs.IndexLaws.{none_at, first_found, found_if}
use Rattle.terms.specs.declared.Address.{Address}
use Rattle.terms.specs.declared.Place.{Place}
use Rattle.site.specs.declared.Refused.{Refused}
use Rattle.site.specs.declared.PartitionRow.{PartitionRow}
use Rattle.site.specs.Layout.{partitions, partition_row}
use Rattle.site.specs.Rules.{sectors, numbered, partition_numbered, meet, overlap, partitions_overlap, apart, good_site}
use Rattle.site.specs.Faults.{first_fault}
use Rattle.site.specs.Found.{index_of_number}
use Rattle.site.specs.Places.{Placed, At, Faulty, located, inside, place_on, placed_on, refused, placed_in, placed_by}
use Rattle.site.proofs.RuleLaws.{site_partition}
use Rattle.site.proofs.PlaceLaws.{Inside, inside_is, inside_ends}

-- a valid address, with the row that it names
pub record Valid (f : List ℕ) (a : Address) : Type 0 where
  pub row : ℕ
  pub known : row < partitions f
  pub named : numbered a.volume a.partition (partition_row f row) ≡ true
  pub within : Inside (partition_row f row) a
  pub placed : placed_in f a ≡ record { refusal = 0; place = place_on (partition_row f row) a }

-- an address that is not refused is valid
module _ (f : List ℕ) (a : Address) where
  at : ℕ
  at = index_of_number f a.volume a.partition

  is_named : at < partitions f → numbered a.volume a.partition (partition_row f at) ≡ true
  unfolding at index_of_number partition_numbered
  is_named l = (first_found (partition_numbered f a.volume a.partition) (partitions f) (found_if _ _ l)).1

  pub valid : (placed_in f a).refusal ≡ 0 → Valid f a
  unfolding placed_in placed_on refused at
  valid z = by_test (ltb at (partitions f))
      (λ y. by_test (inside (partition_row f at) a)
      (λ h. record {
        row = at;
        known = ltb-true _ _ y;
        named = is_named (ltb-true _ _ y);
        within = inside_is _ a h;
        placed = rw (y, h);
      })
      (λ n. let lie : ◌≡◌ {A = ℕ} 9 0 = rw (y, n) at z in absurd (omega arith)))
      (λ n. let lie : ◌≡◌ {A = ℕ} 8 0 = rw n at z in absurd (omega arith))

-- two rows with a sector of the volume in common overlap
meets : (r s : PartitionRow) (a b : Address) → Inside r a → Inside s b → place_on r a ≡ place_on s b → overlap r s ≡ true
unfolding overlap meet place_on
meets r s a b p q e =
    let volume : r.volume.0 ≡ s.volume.0 = ap (λ (x : Place). x.volume.0) e in
    let sector : r.first + a.track.0 * 128 + a.sector.0 - 1 ≡ s.first + b.track.0 * 128 + b.sector.0 - 1 = ap (λ (x : Place). x.sector) e in
    let u = inside_ends r a p in
    let v = inside_ends s b q in
    and_both (eq-eqb _ _ volume)
    (and_both (lt-ltb r.first (s.first + sectors s.size) (omega (arith, p.least, q.least)))
    (lt-ltb s.first (r.first + sectors r.size) (omega (arith, p.least, q.least))))

module _ (f : List ℕ) (good : good_site f ≡ true) where
  not_later : (a b : Address) (v : Valid f a) (w : Valid f b) → w.row < v.row → place_on (partition_row f v.row) a ≡ place_on (partition_row f w.row) b → ⊥
  unfolding apart partitions_overlap
  not_later a b v w l e =
      both (meets (partition_row f v.row) (partition_row f w.row) a b v.within w.within e)
      (none_at (partitions_overlap f v.row) v.row w.row (not-true _ (site_partition f good v.row v.known).apart) l)

  one_row : (a b : Address) (v : Valid f a) (w : Valid f b) → place_on (partition_row f v.row) a ≡ place_on (partition_row f w.row) b → v.row ≡ w.row
  one_row a b v w e = by_eq v.row w.row (λ h. h) (λ ne. by_test (ltb w.row v.row)
      (λ y. absurd (not_later a b v w (ltb-true _ _ y) e))
      (λ n. absurd (not_later b a w v (omega (arith, ltb-false w.row v.row n)) (sym e))))

-- the parts of an address named by a row
record Named (a : Address) (r : PartitionRow) : Type 0 where
  volume : a.volume.0 ≡ r.volume.0
  partition : a.partition.0 ≡ r.partition.0

named_is : (a : Address) (r : PartitionRow) → numbered a.volume a.partition r ≡ true → Named a r
unfolding numbered
named_is a r h = record {
  volume = sym (eqb-true _ _ (and_left (eqb r.volume.0 a.volume.0) (eqb r.partition.0 a.partition.0) h));
  partition = sym (eqb-true _ _ (and_right (eqb r.volume.0 a.volume.0) (eqb r.partition.0 a.partition.0) h));
}

-- on one row, one place is one address
one_address : (r : PartitionRow) (a b : Address) → Named a r → Named b r → Inside r a → Inside r b → place_on r a ≡ place_on r b → a ≡ b
unfolding place_on
one_address r a b na nb p q e = λ i. record {
  volume = record { 0 = volume i };
  partition = record { 0 = partition i };
  track = record { 0 = track i };
  sector = record { 0 = sector i };
}
  where
    volume : a.volume.0 ≡ b.volume.0
    volume = na.volume ∙ sym nb.volume

    partition : a.partition.0 ≡ b.partition.0
    partition = na.partition ∙ sym nb.partition

    same : r.first + a.track.0 * 128 + a.sector.0 - 1 ≡ r.first + b.track.0 * 128 + b.sector.0 - 1
    same = ap (λ (x : Place). x.sector) e

    track : a.track.0 ≡ b.track.0
    track = omega (arith, same, p.least, q.least, p.most, q.most)

    sector : a.sector.0 ≡ b.sector.0
    sector = omega (arith, same, track, p.least, q.least)

-- in a good site file, valid addresses with one place are one address
pub two_addresses_two_sectors : (f : List ℕ) → good_site f ≡ true → (a b : Address)
    → (placed_in f a).refusal ≡ 0 → (placed_in f b).refusal ≡ 0 → (placed_in f a).place ≡ (placed_in f b).place → a ≡ b
two_addresses_two_sectors f good a b za zb e =
    let v = valid f a za in
    let w = valid f b zb in
    let at_a = ap (λ (p : Placed). p.place) v.placed in
    let at_b = ap (λ (p : Placed). p.place) w.placed in
    let here : place_on (partition_row f v.row) a ≡ place_on (partition_row f w.row) b = sym at_a ∙ e ∙ at_b in
    let one : w.row ≡ v.row = sym (one_row f good a b v w here) in
    one_address (partition_row f v.row) a b
    (named_is a _ v.named)
    (named_is b _ (subst (λ (i : ℕ). numbered b.volume b.partition (partition_row f i) ≡ true) one w.named))
    v.within
    (subst (λ (i : ℕ). Inside (partition_row f i) b) one w.within)
    (subst (λ (i : ℕ). place_on (partition_row f v.row) a ≡ place_on (partition_row f i) b) one here)

-- the same over the contract of `place`, for any file: two calls that answer one place were asked for one address
pub one_place_one_address : (f : List ℕ) (a b : Address) (r s : Result Place Refused) → Gives (placed_by f a) (located r) → Gives (placed_by f b) (located s)
    → (p q : Place) → r ≡ Ok p → s ≡ Ok q → p ≡ q → a ≡ b
one_place_one_address f a b r s given given' p q rp sq e =
    let pa = placed_at a p (sym given.answer ∙ ap located rp) in
    let qb = placed_at b q (sym given'.answer ∙ ap located sq) in
    two_addresses_two_sectors f pa.0 a b
    (ap (λ (x : Placed). x.refusal) pa.1)
    (ap (λ (x : Placed). x.refusal) qb.1)
    (ap (λ (x : Placed). x.place) pa.1 ∙ e ∙ sym (ap (λ (x : Placed). x.place) qb.1))
  where
    at_one : (x y : Placed) → At x ≡ At y → x ≡ y
    at_one x y h = cc

    not_at : (x : Placed) → Faulty (first_fault f) ≡ At x → ⊥
    not_at x h = let z : ◌≡◌ {A = ℕ} 0 1 = cc in omega arith

    placed_at : (a : Address) (p : Place) → placed_by f a ≡ located (Ok p) → (good_site f ≡ true) × (placed_in f a ≡ record { refusal = 0; place = p })
    placed_at a p h =
        let is : cond (good_site f) (At (placed_in f a)) (Faulty (first_fault f)) ≡ At (record { refusal = 0; place = p }) = unfold placed_by located in h in
        by_test (good_site f) (λ y. (y, at_one _ _ (rw y at is))) (λ n. absurd (not_at _ (rw n at is)))
