-- What adding and striking do to the places of the list.
use Prim.Native.Nat.{ℕ, ◌+◌, ◌-◌, ◌*◌, ◌≤◌, ◌<◌}
use native.Mathlib.Omega.{arith}
use mathlib.Core.Path.{◌≡◌, sym, ap, ◌∙◌}
use mathlib.Core.Bool.{Bool, true, cond}
use mathlib.Core.List.{List, [], ◌++◌, append-nil}
use lib.Dec.{ltb}
use lib.ListN.{length, take, drop, replicate, length-drop, length-append, length-replicate, drop_of_length-le}
use lib.Seq.{length-take-le, take-nil}
use borrow.Author.Tests.{ltb-true, ltb-false, le-ltb}
use Rattle.rows.specs.Rows.{part, put, row}
use Rattle.rows.proofs.BoolLaws.{by_test, by_eq}
use Rattle.rows.proofs.IndexLaws.{first_found, found_if}
use Rattle.rows.proofs.RowLaws.{length_part, part_rest, part_end, part_append, part_right, part_take, part_drop, put_next, put_last, length_set_row, row_set_row, row_set_row_other}
use Rattle.terms.specs.declared.LockString.{LockString}
use Rattle.station.specs.State.{place_count, unused, listed, added, struck_at}
use Rattle.station.proofs.PlaceLaws.{placed, placed_long}

-- a list of n places has n places
pub count_is : (n : ℕ) (l : List ℕ) → length l ≡ 14 * n → place_count l ≡ n
count_is n l sized = omega arith

-- what stands after place i moved to where it was, and zeros put down behind it
pub struck_laid : (l : List ℕ) (i : ℕ) → 14 * i + 14 ≤ length l → put (put l (14 * i) (part l (14 * i + 14) (length l - 14 - 14 * i))) (length l - 14) (replicate 14 0) ≡ struck_at l i
unfolding struck_at
struck_laid l i inside =
    let r = length l - 14 - 14 * i in
    let tail = part l (14 * i + 14) r in
    let long : length tail ≡ r = length_part l (14 * i + 14) r (omega arith) in
    let last : tail ≡ drop (14 * i + 14) l =
    sym (append-nil tail) ∙ rw (← drop_of_length-le l {i = 14 * i + 14 + r} (omega arith)) (part_rest l (14 * i + 14) r)
    in
    put_next l tail (replicate 14 0) (14 * i) (length l - 14) (omega (arith, long)) (omega arith)
    ∙ put_last l (tail ++ replicate 14 0) (14 * i) (omega (arith, length-append tail (replicate 14 0), long))
    ∙ ap (λ (t : List ℕ). take (14 * i) l ++ (t ++ replicate 14 0)) last

-- a place past the end reads as an unused one
pub row_past : (n : ℕ) (l : List ℕ) → length l ≡ 14 * n → row 14 l n ≡ []
unfolding part
row_past n l sized = rw (drop_of_length-le l {i = 14 * n} (omega arith)) (take-nil 14)

-- l' is l with r as its place k, which was the first unused one of n
pub record Adds (n k : ℕ) (r l l' : List ℕ) : Type 0 where
  pub long : length l' ≡ length l
  pub inside : k < n
  pub was : unused l k ≡ true
  pub here : row 14 l' k ≡ r
  pub there : (i : ℕ) → (i ≡ k → ⊥) → row 14 l' i ≡ row 14 l i

pub added_adds : (n : ℕ) (l : List ℕ) (x : LockString) → length l ≡ 14 * n → length x.bytes ≡ 13 → listed l < n → Adds n (listed l) (placed x) l (added l x)
unfolding added
added_adds n l x sized full h =
    let fits : 14 * n ≤ length l = omega arith in
    let long = placed_long x full in record {
      long = length_set_row 14 n l fits (listed l) h (placed x) long;
      inside = h;
      was = first_unused;
      here = row_set_row 14 n l fits (listed l) h (placed x) long;
      there = row_set_row_other 14 n l fits (listed l) h (placed x) long;
    }
  where
    first_unused : unused l (listed l) ≡ true
    first_unused = unfold listed in (first_found (unused l) (place_count l) (found_if (unused l) (place_count l) (rw (count_is n l sized) (unfold listed in rw (count_is n l sized) at h)))).1

-- where the string of place j stood before place k was struck
unfoldable pub stood : ℕ → ℕ → ℕ
stood k j = cond (ltb j k) j (j + 1)

module _ (k : ℕ) where
  by_stood : {P : Type 0} (j : ℕ) → (j < k → stood k j ≡ j → P) → (k ≤ j → stood k j ≡ j + 1 → P) → P
  unfolding stood
  by_stood j lo hi = by_test (ltb j k) (λ y. lo (ltb-true j k y) (rw y)) (λ m. hi (ltb-false j k m) (rw m))

  pub stood_apart : (j : ℕ) → stood k j ≡ k → ⊥
  stood_apart j e = by_stood j (λ b d. omega arith) (λ b d. omega arith)

  pub stood_inside : (n j : ℕ) → j < n → stood k j ≤ n
  stood_inside n j h = by_stood j (λ b d. omega arith) (λ b d. omega arith)

  pub stood_ordered : (i j : ℕ) → i ≤ j → stood k i ≤ stood k j
  stood_ordered i j h = by_stood i (λ b d. by_stood j (λ b' d'. omega arith) (λ b' d'. omega arith)) (λ b d. by_stood j (λ b' d'. omega arith) (λ b' d'. omega arith))

  pub stood_one : (i j : ℕ) → stood k i ≡ stood k j → i ≡ j
  stood_one i j e = by_stood i (λ b d. by_stood j (λ b' d'. omega arith) (λ b' d'. omega arith)) (λ b d. by_stood j (λ b' d'. omega arith) (λ b' d'. omega arith))

  -- each other place has its string somewhere afterwards
  pub by_place_now : {P : Type 0} (n i : ℕ) → (i ≡ k → ⊥) → i < n → ((j : ℕ) → j < n → stood k j ≡ i → P) → P
  unfolding stood
  by_place_now n i ne h there = by_test (ltb i k)
      (λ y. there i h (rw y))
      (λ m.
      let after : k < i = omega (arith, ltb-false i k m) in
      there (i - 1) (omega arith) (rw (le-ltb (i - 1) k (omega arith)) (omega arith)))

-- l' is l, of n places, with place k struck: every test that takes zeros for nothing finds in place j what stood there before
pub record Strikes (n k : ℕ) (l l' : List ℕ) : Type 0 where
  pub long : length l' ≡ length l
  pub inside : k < n
  pub rows : (f : List ℕ → Bool) → f (replicate 14 0) ≡ f [] → (j : ℕ) → j < n → f (row 14 l' j) ≡ f (row 14 l (stood k j))

module _ (n k : ℕ) (l : List ℕ) (sized : length l ≡ 14 * n) (inside : k < n) where
  front : List ℕ
  front = take (14 * k) l

  front_long : length front ≡ 14 * k
  unfolding front
  front_long = length-take-le (14 * k) l (omega arith)

  back : List ℕ
  back = drop (14 * k + 14) l

  back_long : length back ≡ 14 * n - 14 * k - 14
  unfolding back
  back_long = length-drop (14 * k + 14) l ∙ omega arith

  before : (j : ℕ) → j < k → row 14 (struck_at l k) j ≡ row 14 l j
  unfolding struck_at front
  before j b =
      part_append front (drop (14 * k + 14) l ++ replicate 14 0) (14 * j) 14 (omega (arith, front_long))
      ∙ part_take l (14 * k) (14 * j) 14 (omega arith) (omega arith)

  behind_front : (j : ℕ) → k ≤ j → row 14 (struck_at l k) j ≡ part (back ++ replicate 14 0) (14 * j - 14 * k) 14
  unfolding struck_at front back
  behind_front j b =
      part_right front (back ++ replicate 14 0) (14 * j) 14 (omega (arith, front_long))
      ∙ ap (λ (m : ℕ). part (back ++ replicate 14 0) (14 * j - m) 14) front_long

  after : (j : ℕ) → k ≤ j → j + 1 < n → row 14 (struck_at l k) j ≡ row 14 l (j + 1)
  unfolding back
  after j b h =
      behind_front j b
      ∙ part_append back (replicate 14 0) (14 * j - 14 * k) 14 (omega (arith, back_long))
      ∙ part_drop l (14 * k + 14) (14 * j - 14 * k) 14
      ∙ ap (λ (m : ℕ). part l m 14) (omega arith)

  last : (j : ℕ) → j + 1 ≡ n → row 14 (struck_at l k) j ≡ replicate 14 0
  last j e = behind_front j (omega arith) ∙ part_end back (replicate 14 0) (14 * j - 14 * k) 14 (back_long ∙ omega arith) (length-replicate {A = ℕ} 14 0)

  pub struck_strikes : Strikes n k l (struck_at l k)
  struck_strikes = record {
    long = long;
    inside = inside;
    rows = λ f z j h. by_stood k j
        (λ b e. ap f (before j b) ∙ rw e)
        (λ b e. by_eq (j + 1) n
        (λ d. ap f (last j d) ∙ z ∙ rw (e, d, row_past n l sized))
        (λ ne. ap f (after j b (omega arith)) ∙ rw e));
  }
    where
      long : length (struck_at l k) ≡ length l
      long = unfold struck_at front back in length-append front (back ++ replicate 14 0) ∙ omega (arith, front_long, length-append back (replicate 14 0), back_long)
