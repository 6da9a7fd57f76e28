-- Partition rows walked in some order, beside how far those of each volume have reached. A row that begins where the rows before
-- it have ended overlaps none of them; where all do, no two rows overlap.
use Prim.Native.Nat.{ℕ, ◌+◌, ◌-◌, ◌≤◌, ◌<◌, max}
use native.Mathlib.Nat.{not-suc-le-zero}
use native.Mathlib.Omega.{arith}
use mathlib.Core.Path.{◌≡◌, refl, sym, ap, ap₂, ◌∙◌, subst}
use mathlib.Core.Bool.{Bool, true, false, not, and_comm}
use mathlib.Core.List.{List}
use lib.Dec.{eqb, ltb}
use lib.ListN.{length, get_or, length-set}
use lib.Pow.{pow_pos}
use lib.Seq.{get_or-set_same, get_or-set_other}
use borrow.Author.Tests.{eqb-true, eq-eqb, leb-true, lt-ltb, le-ltb, ltb-true, ltb-false}
use Rattle.rows.proofs.BoolLaws.{by_test, by_eq, both, eqb_sym}
use Rattle.rows.proofs.DistinctLaws.{Distinct, stands}
use Rattle.rows.proofs.IndexLaws.{none_from, all_from}
use Rattle.rows.specs.Words.{all}
use Rattle.site.specs.declared.PartitionRow.{PartitionRow}
use Rattle.site.specs.Layout.{partition_row}
use Rattle.site.specs.Rules.{tracks, sectors, ranged, meet, overlap, partitions_overlap, apart}
use Rattle.site.specs.Shortcuts.{end_of, past, passing}
use Rattle.site.proofs.RuleLaws.{ranged_is}

-- of the rows before place k each has ended where its volume has, and no two overlap; `at` is the order
pub record Walked (f : List ℕ) (at : ℕ → ℕ) (ends : List ℕ) (k : ℕ) : Type 0 where
  pub long : length ends ≡ 4
  pub ended : (j : ℕ) → j < k → end_of (partition_row f (at j)) ≤ get_or ends (partition_row f (at j)).volume.0 0
  pub clear : (i j : ℕ) → i < j → j < k → partitions_overlap f (at j) (at i) ≡ false

module _ (f : List ℕ) (at : ℕ → ℕ) (ends : List ℕ) where
  pub walk_starts : length ends ≡ 4 → Walked f at ends 0
  walk_starts long = record { long = long; ended = λ j l. absurd (not-suc-le-zero l); clear = λ i j l m. absurd (not-suc-le-zero m) }

  -- what is taken in, and what was there
  taken : (r : PartitionRow) → r.volume.0 < length ends → end_of r ≤ get_or (passing ends r) r.volume.0 0
  unfolding passing
  taken r inside = rw (get_or-set_same ends r.volume.0 (max (get_or ends r.volume.0 0) (end_of r)) 0 inside) (omega arith)

  grows : (r : PartitionRow) (v : ℕ) → r.volume.0 < length ends → get_or ends v 0 ≤ get_or (passing ends r) v 0
  unfolding passing
  grows r v inside = by_eq v r.volume.0
      (λ (e : v ≡ r.volume.0). rw (e, get_or-set_same ends r.volume.0 (max (get_or ends r.volume.0 0) (end_of r)) 0 inside) (omega arith))
      (λ ne. rw (get_or-set_other ends r.volume.0 v (max (get_or ends r.volume.0 0) (end_of r)) 0 ne) (omega arith))

  -- the row at place k begins where its volume's have ended
  module _ {k : ℕ} (walked : Walked f at ends k) (begins : past ends (partition_row f (at k)) ≡ true) where
    before : (j : ℕ) → j < k → (partition_row f (at k)).volume.0 ≡ (partition_row f (at j)).volume.0 → end_of (partition_row f (at j)) ≤ (partition_row f (at k)).first
    unfolding past
    before j l v =
        let reached : get_or ends (partition_row f (at k)).volume.0 0 ≤ (partition_row f (at k)).first = leb-true _ _ begins in
        omega (arith, walked.ended j l, ap (λ (u : ℕ). get_or ends u 0) v)

    past_apart : (j : ℕ) → j < k → partitions_overlap f (at k) (at j) ≡ false
    unfolding partitions_overlap overlap meet
    past_apart j l = by_test (eqb (partition_row f (at k)).volume.0 (partition_row f (at j)).volume.0)
        (λ y. rw (y, le-ltb (partition_row f (at k)).first (end_of (partition_row f (at j))) (before j l (eqb-true _ _ y))))
        (λ n. rw n)

    pub walk_on : {ends' : List ℕ} → ranged (partition_row f (at k)) ≡ true → ends' ≡ passing ends (partition_row f (at k)) → Walked f at ends' (k + 1)
    walk_on {ends'} range is = subst (λ (l : List ℕ). Walked f at l (k + 1)) (sym is) (record { long = still; ended = each; clear = pairs })
      where
        inside : (partition_row f (at k)).volume.0 < length ends
        inside = omega (arith, (ranged_is (partition_row f (at k)) range).volume, walked.long)

        still : length (passing ends (partition_row f (at k))) ≡ 4
        still = unfold passing in (simp length-set walked.long)

        each : (j : ℕ) → j < k + 1 → end_of (partition_row f (at j)) ≤ get_or (passing ends (partition_row f (at k))) (partition_row f (at j)).volume.0 0
        each j l = by_eq j k
            (λ (q : j ≡ k). rw q (taken (partition_row f (at k)) inside))
            (λ ne. omega (arith, walked.ended j (omega arith), grows (partition_row f (at k)) (partition_row f (at j)).volume.0 inside))

        pairs : (i j : ℕ) → i < j → j < k + 1 → partitions_overlap f (at j) (at i) ≡ false
        pairs i j l m = by_eq j k
            (λ (q : j ≡ k). rw q (past_apart i (omega arith)))
            (λ ne. walked.clear i j l (omega arith))

-- overlapping is mutual, and every row overlaps itself
overlap_sym : (r s : PartitionRow) → overlap r s ≡ overlap s r
unfolding overlap meet
overlap_sym r s = rw (eqb_sym r.volume.0 s.volume.0, and_comm (ltb r.first (s.first + sectors s.size)) (ltb s.first (r.first + sectors r.size)))

some_sectors : (n : ℕ) → 0 < sectors n
unfolding sectors tracks
some_sectors n = omega (arith, pow_pos (n - 1))

overlap_self : (r : PartitionRow) → overlap r r ≡ true
unfolding overlap meet
overlap_self r =
    let begins : ltb r.first (r.first + sectors r.size) ≡ true = lt-ltb r.first (r.first + sectors r.size) (omega (arith, some_sectors r.size)) in
    rw (eq-eqb r.volume.0 r.volume.0 refl, begins)

-- n rows walked in an order of n rows
module _ (f : List ℕ) (at : ℕ → ℕ) (n : ℕ) (low : (k : ℕ) → k < n → at k < n) (clear : (i j : ℕ) → i < j → j < n → partitions_overlap f (at j) (at i) ≡ false) where
  distinct : Distinct at n
  unfolding partitions_overlap
  distinct a b l m e = both (ap (λ (i : ℕ). overlap (partition_row f (at b)) (partition_row f i)) e ∙ overlap_self (partition_row f (at b))) (clear a b l m)

  pair_apart : (i j : ℕ) → i < n → j < i → partitions_overlap f i j ≡ false
  unfolding partitions_overlap
  pair_apart i j l m =
      let p = stands n at low distinct i l in
      let q = stands n at low distinct j (omega arith) in
      let overlaps : ℕ → ℕ → Bool = λ a b. overlap (partition_row f a) (partition_row f b) in
      by_test (ltb p.place q.place)
      (λ y. overlap_sym (partition_row f i) (partition_row f j) ∙ sym (ap₂ overlaps q.here p.here) ∙ clear p.place q.place (ltb-true _ _ y) q.inside)
      (λ z. by_eq q.place p.place
      (λ e. let same : j ≡ i = sym q.here ∙ ap at e ∙ p.here in absurd (omega arith))
      (λ ne. sym (ap₂ overlaps p.here q.here) ∙ clear q.place p.place (omega (arith, ltb-false p.place q.place z)) p.inside))

  pub walk_ends : all (apart f) n ≡ true
  unfolding apart
  walk_ends = all_from (apart f) n (λ i l. ap not (none_from (partitions_overlap f i) i (λ j m. pair_apart i j l m)))
