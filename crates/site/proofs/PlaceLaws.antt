-- An address inside a partition, as facts.
use Rattle.std.specs.Prelude.{Result, Ok, Err}
use Prim.Native.Nat.{ℕ, ◌+◌, ◌*◌, ◌≤◌, ◌<◌}
use native.Mathlib.Omega.{arith}
use mathlib.Core.Path.{◌≡◌, sym, ap}
use mathlib.Core.Bool.{true, ◌&&◌}
use mathlib.Core.List.{List}
use lib.Dec.{leb, ltb}
use borrow.Author.Tests.{ltb-true, leb-true}
use Rattle.rows.proofs.BoolLaws.{by_test, and_left, and_right}
use Rattle.refusals.specs.declared.Refusal.{Refusal}
use Rattle.refusals.specs.Refusals.{number}
use Rattle.refusals.specs.Outcomes.{GivesUnless}
use Rattle.refusals.proofs.OutcomeLaws.{number_never_0, number_one}
use Rattle.terms.specs.declared.Address.{Address}
use Rattle.terms.specs.declared.Place.{Place}
use Rattle.site.specs.declared.Fault.{Fault}
use Rattle.site.specs.declared.Refused.{Refused}
use Rattle.site.specs.declared.Refused.TheVariants.{Site, By}
use Rattle.site.specs.declared.PartitionRow.{PartitionRow}
use Rattle.site.specs.Layout.{partitions, partition_row}
use Rattle.site.specs.Rules.{tracks, sectors, ranged}
use Rattle.site.specs.Found.{index_of_number}
use Rattle.site.specs.Places.{Located, At, Faulty, located, inside, refused, placed_on, placed_in}
use Rattle.site.proofs.RuleLaws.{ranged_is}

pub record Inside (r : PartitionRow) (a : Address) : Type 0 where
  pub track : a.track.0 < tracks r.size
  pub least : 1 ≤ a.sector.0
  pub most : a.sector.0 ≤ 128

pub inside_is : (r : PartitionRow) (a : Address) → inside r a ≡ true → Inside r a
unfolding inside
inside_is r a h =
    let t = ltb a.track.0 (tracks r.size) in
    let l = leb 1 a.sector.0 in
    let m = leb a.sector.0 128 in
    let h₁ = and_right t (l && m) h in record {
      track = ltb-true _ _ (and_left t (l && m) h);
      least = leb-true _ _ (and_left l m h₁);
      most = leb-true _ _ (and_right l m h₁);
    }

-- an address in a good file is refused with 8 or 9, if at all
pub placed_low : (f : List ℕ) (a : Address) → (placed_in f a).refusal < 10
unfolding placed_in placed_on refused
placed_low f a = by_test (ltb (index_of_number f a.volume a.partition) (partitions f))
    (λ y. by_test (inside (partition_row f (index_of_number f a.volume a.partition)) a) (λ i. rw (y, i) (omega arith)) (λ o. rw (y, o) (omega arith)))
    (λ m. rw m (omega arith))

-- its sector lies in the partition
pub inside_ends : (r : PartitionRow) (a : Address) → Inside r a → a.track.0 * 128 + a.sector.0 ≤ sectors r.size
unfolding sectors
inside_ends r a h = omega (arith, h.track, h.most)

-- and on the volume
pub place_ends : (r : PartitionRow) (a : Address) → ranged r ≡ true → inside r a ≡ true → (1 ≤ a.sector.0) × (r.first + a.track.0 * 128 + a.sector.0 ≤ 1048576)
place_ends r a g h =
    let i = inside_is r a h in
    (i.least, omega (arith, (ranged_is r g).ends, inside_ends r a i))

-- the place of an address in a good file, in either way of telling it
module _ (f : List ℕ) (a : Address) where
  pub placed_ok : (p : Place) → GivesUnless (placed_in f a).refusal (placed_in f a).place (Ok p) → At (record { refusal = 0; place = p }) ≡ At (placed_in f a)
  placed_ok p h = ap At (λ i. record { refusal = sym h.0 i; place = h.1 i })

  pub placed_err : (r : Refusal) → (placed_in f a).refusal ≡ number r → At (refused (number r)) ≡ At (placed_in f a)
  unfolding placed_in placed_on refused
  placed_err r e = by_test (ltb (index_of_number f a.volume a.partition) (partitions f))
      (λ y. by_test (inside (partition_row f (index_of_number f a.volume a.partition)) a)
      (λ i. absurd (number_never_0 r (sym (rw (y, i) at e))))
      (λ o. rw (y, o) (ap (λ (k : ℕ). At (refused k)) (sym (rw (y, o) at e)))))
      (λ m. rw m (ap (λ (k : ℕ). At (refused k)) (sym (rw m at e))))

refusal_of : Located → ℕ
refusal_of (Faulty x) = 0
refusal_of (At p) = p.refusal

place_or : Place → Located → Place
place_or q (Faulty x) = q
place_or q (At p) = p.place

-- what is told of two answers is one only where they are one
pub located_one : (r s : Result Place Refused) → located r ≡ located s → r ≡ s
unfolding located refused refusal_of place_or
located_one (Ok p) (Ok q) e = ap Ok (ap (place_or p) e)
located_one (Ok p) (Err (Site y)) e = absurd (cc)
located_one (Ok p) (Err (By k)) e = absurd (number_never_0 k (sym (ap refusal_of e)))
located_one (Err (Site x)) (Ok q) e = absurd (cc)
located_one (Err (Site x)) (Err (Site y)) e = let one : x ≡ y = cc in ap (λ (z : Fault). Err (Site z)) one
located_one (Err (Site x)) (Err (By k)) e = absurd (cc)
located_one (Err (By j)) (Ok q) e = absurd (number_never_0 j (ap refusal_of e))
located_one (Err (By j)) (Err (Site y)) e = absurd (cc)
located_one (Err (By j)) (Err (By k)) e =
    ap (λ (z : Refusal). Err (By z)) (number_one j k (ap refusal_of e))
