-- Which strings are listed: by sameness, in which places, and after adding and striking one.
use Prim.Native.Nat.{ℕ, ◌+◌, ◌-◌, ◌*◌, ◌≤◌, ◌<◌}
use native.Mathlib.Omega.{arith}
use mathlib.Core.Path.{◌≡◌, refl, sym, ap, ◌∙◌}
use mathlib.Core.Bool.{true, false, not, ◌&&◌, ◌||◌}
use mathlib.Core.List.{List}
use lib.ListN.{length, replicate, length-replicate}
use borrow.Author.Tests.{not-true}
use Rattle.rows.specs.Words.{any}
use Rattle.rows.specs.Rows.{part, row}
use Rattle.rows.proofs.BoolLaws.{by_test, by_eq, both, and_left, and_right, and_both, refuted, iff}
use Rattle.rows.proofs.BuildLaws.{take_zeros, drop_zeros}
use Rattle.rows.proofs.IndexLaws.{any_at, none_from, first_found, first_none, first_least, any_same, any_set}
use Rattle.terms.specs.declared.LockString.{LockString}
use Rattle.terms.specs.Strings.{legal, same_string}
use Rattle.terms.specs.Tables.{is_free, holds, row_in, row_free, row_holds}
use Rattle.terms.proofs.TableLaws.{holds_is, is_holds, holds_same, free_holds}
use Rattle.terms.proofs.StringLaws.{legal_same, same_string_refl, same_string_sym, same_string_trans, same_string_normal}
use Rattle.station.specs.State.{place_count, places, place_string, unused, listed_at, is_listed, place_of, listed, added}
use Rattle.station.specs.Asks.{struck}
use Rattle.station.proofs.PlaceLaws.{zeros_good, used_legal, placed, placed_string, placed_used}
use Rattle.station.proofs.GoodLaws.{Good}
use Rattle.station.proofs.ListLaws.{row_past, Adds, added_adds, stood, stood_apart, stood_inside, by_place_now, Strikes, struck_strikes}

module _ (l : List ℕ) (x : LockString) where
  -- the place of a string that is listed
  pub listed_place : is_listed l x ≡ true → (place_of l x < place_count l) × (listed_at l x (place_of l x) ≡ true)
  unfolding is_listed place_of
  listed_place h = first_found (listed_at l x) (place_count l) h

  pub place_listed : (i : ℕ) → i < place_count l → listed_at l x i ≡ true → is_listed l x ≡ true
  unfolding is_listed
  place_listed i b h = any_at (listed_at l x) (place_count l) i b h

-- a string is listed where one that is the same is
pub listed_same : (l : List ℕ) (a b : LockString) → same_string a b ≡ true → is_listed l a ≡ is_listed l b
unfolding is_listed row_in row_holds
listed_same l a b h = any_same (listed_at l b) (listed_at l a) (place_count l) (λ i _. holds_same places a b (row 14 l i) h)

-- the places below the number of strings are used
pub below_used : (l : List ℕ) (i : ℕ) → i < listed l → unused l i ≡ false
unfolding listed
below_used l i h = first_least (unused l) (place_count l) i h

module _ {n : ℕ} {l : List ℕ} (g : Good n l) where
  pub within : {i : ℕ} → i < place_count l → i < n
  within b = omega (arith, g.sized)

  pub counted : {i : ℕ} → i < n → i < place_count l
  counted b = omega (arith, g.sized)

  -- a string that is listed is legal
  pub listed_legal : (x : LockString) → is_listed l x ≡ true → legal x ≡ true
  unfolding row_in row_free row_holds
  listed_legal x h =
      let p = listed_place l x h in
      let held = holds_is places x (row 14 l (place_of l x)) p.1 in
      sym (legal_same _ x held.string) ∙ used_legal l (place_of l x) (g.each _ (within p.0)) held.used

  -- the used places are those below the number of strings
  pub listed_inside : listed l ≤ n
  unfolding listed
  listed_inside = by_test (any (unused l) (place_count l))
      (λ y. omega (arith, (first_found (unused l) (place_count l) y).0, g.sized))
      (λ f. omega (arith, first_none (unused l) (place_count l) f, g.sized))

  -- each of them holds a string that is listed, and no two the same
  own : (i : ℕ) → i < listed l → listed_at l (place_string (row 14 l i)) i ≡ true
  unfolding row_in row_free row_holds
  own i b = is_holds places _ (row 14 l i) (record { used = below_used l i b; string = same_string_refl _ })

  pub below_listed : (i : ℕ) → i < listed l → is_listed l (place_string (row 14 l i)) ≡ true
  below_listed i b = place_listed l _ i (counted (omega (arith, listed_inside))) (own i b)

  pub below_one : (i j : ℕ) → i < listed l → j < listed l → same_string (place_string (row 14 l i)) (place_string (row 14 l j)) ≡ true → i ≡ j
  unfolding row_in row_free row_holds
  below_one i j b c s = g.one_place (place_string (row 14 l j)) i j (omega (arith, listed_inside)) (omega (arith, listed_inside))
      (is_holds places _ (row 14 l i) (record { used = below_used l i b; string = s }))
      (own j c)

-- after a string was put in an unused place, it is listed too
pub adds_listed : {n k : ℕ} {l l' : List ℕ} (x : LockString) → length x.bytes ≡ 13 → legal x ≡ true → Adds n k (placed x) l l' → length l ≡ 14 * n → (y : LockString) → is_listed l' y ≡ (is_listed l y || same_string x y)
unfolding is_listed row_in row_free row_holds holds is_free
adds_listed {n} {k} {l} {l'} x full lawful a sized y =
    rw a.long
    (any_set (listed_at l y) (listed_at l' y) (place_count l) k (omega (arith, a.inside)) (free_holds places y (row 14 l k) a.was) (λ i b ne. rw (a.there i ne))
    ∙ rw (a.here, placed_used x full lawful, placed_string x full, same_string_normal x full y))

-- after place k was struck, what it held is listed no more, and all else is
module _ {n k : ℕ} {l l' : List ℕ} (g : Good n l) (s : Strikes n k l l') where
  pub struck_holds : (y : LockString) (j : ℕ) → j < n → listed_at l' y j ≡ listed_at l y (stood k j)
  unfolding row_in row_holds holds is_free
  struck_holds y j b = s.rows (holds places y) refl j b

  -- what is found in place j stood in a place of the list
  pub struck_stood : (y : LockString) (j : ℕ) → j < n → listed_at l' y j ≡ true → (stood k j < n) × (listed_at l y (stood k j) ≡ true)
  unfolding row_in row_holds holds is_free
  struck_stood y j b h =
      let there : listed_at l y (stood k j) ≡ true = sym (struck_holds y j b) ∙ h in
      by_eq (stood k j) n
      (λ e. both there (rw (e, row_past n l g.sized)))
      (λ ne. (omega (arith, stood_inside k n j b), there))

  pub strikes_listed : (x : LockString) → listed_at l x k ≡ true → (y : LockString) → is_listed l' y ≡ (is_listed l y && not (same_string x y))
  unfolding row_in row_holds
  strikes_listed x held y = iff (is_listed l' y) (is_listed l y && not (same_string x y)) gone kept
    where
      gone : is_listed l' y ≡ true → (is_listed l y && not (same_string x y)) ≡ true
      gone h =
          let p = listed_place l' y h in
          let j = place_of l' y in
          let q = struck_stood y j (omega (arith, p.0, s.long, g.sized)) p.1 in
          and_both (place_listed l y (stood k j) (counted g q.0) q.1)
          (ap not (sym (refuted (same_string x y) (λ same. stood_apart k j (g.one_place x (stood k j) k q.0 s.inside (holds_same places x y (row 14 l (stood k j)) same ∙ q.1) held)))))

      kept : (is_listed l y && not (same_string x y)) ≡ true → is_listed l' y ≡ true
      kept h =
          let p = listed_place l y (and_left (is_listed l y) (not (same_string x y)) h) in
          let apart : same_string x y ≡ false = not-true _ (and_right (is_listed l y) (not (same_string x y)) h) in
          let i = place_of l y in
          by_place_now k n i
          (λ e. both (same_string_trans x (place_string (row 14 l k)) y (same_string_sym _ x (holds_is places x (row 14 l k) held).string) (rw e at (holds_is places y (row 14 l i) p.1).string)) apart)
          (within g p.0)
          (λ j b e. place_listed l' y j (omega (arith, s.long, g.sized)) (struck_holds y j b ∙ rw e p.1))

module _ {n : ℕ} {l : List ℕ} (g : Good n l) where
  pub listed_added : (x : LockString) → legal x ≡ true → length x.bytes ≡ 13 → listed l < n → (y : LockString) → is_listed (added l x) y ≡ (is_listed l y || same_string x y)
  listed_added x lawful full h = adds_listed x full lawful (added_adds n l x g.sized full h) g.sized

  pub listed_struck : (x y : LockString) → is_listed (struck l x) y ≡ (is_listed l y && not (legal x && same_string x y))
  unfolding struck
  listed_struck x y = by_test (legal x && is_listed l x)
      (λ t.
      let p = listed_place l x (and_right (legal x) (is_listed l x) t) in
      rw (t, and_left (legal x) (is_listed l x) t) (strikes_listed g (struck_strikes n (place_of l x) l g.sized (within g p.0)) x p.1 y))
      (λ f. rw f (by_test (is_listed l y)
      (λ h. rw (
        h,
        ← refuted (legal x && same_string x y) (λ same.
            both (and_both (and_left (legal x) (same_string x y) same) (listed_same l x y (and_right (legal x) (same_string x y) same) ∙ h)) f),
      ))
      (λ m. rw m)))

-- zeros alone: every place is unused, and nothing is listed
module _ (k : ℕ) where
  zeros_row : (i : ℕ) → 14 * i + 14 ≤ k → row 14 (replicate k 0) i ≡ replicate 14 0
  unfolding part
  zeros_row i b = rw (drop_zeros k (14 * i) (omega arith)) (take_zeros (k - 14 * i) 14 (omega arith))

  zeros_unused : (i : ℕ) → 14 * i + 14 ≤ k → unused (replicate k 0) i ≡ true
  unfolding row_in row_free is_free
  zeros_unused i b = rw (zeros_row i b)

  pub listed_none : (y : LockString) → is_listed (replicate k 0) y ≡ false
  unfolding is_listed row_in row_free row_holds
  listed_none y = none_from _ (place_count (replicate k 0)) (λ i b. free_holds places y (row 14 (replicate k 0) i) (zeros_unused i (omega (arith, length-replicate {A = ℕ} k 0))))

pub zeros_list : (n : ℕ) → Good n (replicate (14 * n) 0)
unfolding row_in row_free
zeros_list n = record {
  sized = length-replicate {A = ℕ} (14 * n) 0;
  each = λ i b. rw (zeros_row (14 * n) i (omega arith)) zeros_good;
  one_place = λ x i j b m p q. both p (free_holds places x (row 14 (replicate (14 * n) 0) i) (zeros_unused (14 * n) i (omega arith)));
  used_first = λ i j u h b. zeros_unused (14 * n) j (omega arith);
}
