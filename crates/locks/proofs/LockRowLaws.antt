-- The laws of one row of the lock table.
use Prim.Native.Nat.{ℕ, ◌+◌, ◌-◌, ◌≤◌}
use native.Mathlib.Omega.{arith}
use mathlib.Core.Path.{◌≡◌, refl, sym, ap, ◌∙◌}
use mathlib.Core.Bool.{Bool, true, false, ◌&&◌}
use mathlib.Core.List.{List, [], ◌∷◌, ◌++◌, append_assoc}
use lib.Dec.{eqb}
use lib.ListN.{length, take, drop, replicate, length-append, length-replicate}
use lib.Seq.{take_at, take_all, drop_at, drop-drop, drop-append-le}
use borrow.Author.Tests.{ne_eqb}
use Rattle.rows.specs.Words.{all, zeros, zero_at}
use Rattle.rows.specs.Rows.{part, over}
use Rattle.rows.proofs.BoolLaws.{by_test, and_left, and_right}
use Rattle.rows.proofs.BuildLaws.{is_zeros, drop_zeros}
use Rattle.terms.specs.declared.LockString.{LockString}
use Rattle.terms.specs.Strings.{string_at, string_bytes, legal, key, same_string, normal}
use Rattle.terms.proofs.StringLaws.{legal_len, legal_same, normal_is_same, length_key, length_normal, same_string_normal, string_normal}
use Rattle.terms.specs.Tables
use Rattle.terms.specs.Tables.{string_in, holds}
use Rattle.locks.specs.Row.{owner, lock_rows, string_of, free_row, is_free, row_of, freed}
use Rattle.locks.specs.Good.{sound_row}

-- a row made of its owner, its length and its string over sixteen zeros
pub row_laid : (who : ℕ) (s : LockString) → length s.bytes ≡ 13 → over (who ∷ string_bytes s) (replicate 16 0) ≡ who ∷ (string_bytes s ++ (0 ∷ []))
row_laid who s h = rw h

-- the free row is free
pub free_free : is_free free_row ≡ true
unfolding Tables.is_free
free_free = refl

-- the row that a lock fills
module _ (who : ℕ) (s : LockString) where
  pub owner_row_of : owner (row_of who s) ≡ who
  unfolding owner row_of
  owner_row_of = refl

  pub used_row_of : (who ≡ 0xFF → ⊥) → is_free (row_of who s) ≡ false
  unfolding Tables.is_free owner
  used_row_of ne = rw owner_row_of (ne_eqb who 255 ne)

  module _ (full : length s.bytes ≡ 13) where
    pub length_row_of : length (row_of who s) ≡ 16
    unfolding row_of
    length_row_of = simp (length-append, length_normal s full)

    pub string_row_of : string_of (row_of who s) ≡ normal s
    unfolding string_in string_at row_of part normal
    string_row_of = λ i. record { len = s.len; bytes = take_at (normal s).bytes (0 ∷ []) 13 (length_normal s full) i }

    pub holds_row_of : (who ≡ 0xFF → ⊥) → (x : LockString) → holds lock_rows x (row_of who s) ≡ same_string s x
    unfolding holds
    holds_row_of ne x = rw (used_row_of ne, string_row_of) (same_string_normal s full x)

-- a row freed where it is `who`'s: its length is kept, and it holds what it held if it is not `who`'s
pub freed_long : (who : ℕ) (r : List ℕ) → length r ≡ 16 → length (freed who r) ≡ 16
unfolding freed
freed_long who r h = by_test (eqb (owner r) who) (λ y. rw y) (λ m. rw m h)

-- a good used row
pub record GoodUsed (w : ℕ → Bool) (r : List ℕ) : Type 0 where
  pub inside : w (owner r) ≡ true
  pub lawful : legal (string_of r) ≡ true
  pub rest : zeros (part r (2 + (string_of r).len) (14 - (string_of r).len)) ≡ true

module _ (w : ℕ → Bool) (r : List ℕ) where
  pub good_used : sound_row w r ≡ true → is_free r ≡ false → GoodUsed w r
  unfolding sound_row
  good_used h u =
      let l = legal (string_of r) in
      let z = zeros (part r (2 + (string_of r).len) (14 - (string_of r).len)) in
      let h₁ = and_right (w (owner r)) (l && z) (rw u at h) in record {
        inside = and_left (w (owner r)) (l && z) (rw u at h);
        lawful = and_left l z h₁;
        rest = and_right l z h₁;
      }

  pub used_good : is_free r ≡ false → GoodUsed w r → sound_row w r ≡ true
  unfolding sound_row
  used_good u g = rw (u, g.inside, g.lawful) g.rest

  -- a good row stays good beside other records that have its owner
  pub good_beside : (w' : ℕ → Bool) → sound_row w r ≡ true → (is_free r ≡ false → w' (owner r) ≡ true) → sound_row w' r ≡ true
  unfolding sound_row
  good_beside w' h inside = by_test (is_free r)
      (λ f. rw f (rw f at h))
      (λ u. rw (u, inside u) (and_right (w (owner r)) _ (rw u at h)))

-- the free row is good
pub free_good : (w : ℕ → Bool) → sound_row w free_row ≡ true
unfolding sound_row Tables.is_free zeros zero_at all part
free_good w = refl

-- in a good used row the string stands in its normal form
pub good_normal : (w : ℕ → Bool) (r : List ℕ) → length r ≡ 16 → sound_row w r ≡ true → is_free r ≡ false → normal (string_of r) ≡ string_of r
unfolding string_in
good_normal w r long good used =
    let g = good_used w r good used in
    let short = (legal_len (string_of r) g.lawful).1 in
    string_normal r 1 (14 - (string_of r).len) (omega arith) short (omega arith) (omega arith) g.rest

-- zeros follow the string of the row that a lock fills
zeros_row_of : (who : ℕ) (s : LockString) → length s.bytes ≡ 13 → s.len ≤ 13 → part (row_of who s) (2 + s.len) (14 - s.len) ≡ replicate (14 - s.len) 0
unfolding part row_of normal
zeros_row_of who s full short =
    let long : length (key s) ≡ s.len = length_key s ∙ omega arith in
    ap (take (14 - s.len))
    (sym (drop-drop s.len 2 (row_of who s))
    ∙ ap (drop s.len) (append_assoc (key s) (drop (length (key s)) (replicate 13 0)) (0 ∷ []))
    ∙ drop_at (key s) _ s.len long
    ∙ ap (λ (k : ℕ). drop k (replicate 13 0) ++ (0 ∷ [])) long
    ∙ sym (drop-append-le s.len (replicate 13 0) (0 ∷ []) short)
    ∙ drop_zeros 14 s.len (omega arith))
    ∙ take_all (14 - s.len) (replicate (14 - s.len) 0) (omega (arith, length-replicate {A = ℕ} (14 - s.len) 0))

-- and the row is good
pub good_row_of : (w : ℕ → Bool) (who : ℕ) (s : LockString) → length s.bytes ≡ 13 → (who ≡ 0xFF → ⊥) → w who ≡ true → legal s ≡ true → sound_row w (row_of who s) ≡ true
unfolding normal
good_row_of w who s full ne inside lawful = used_good w (row_of who s) (used_row_of who s ne) (record {
  inside = rw owner_row_of inside;
  lawful = rw (string_row_of who s full) (legal_same (normal s) s (normal_is_same s full) ∙ lawful);
  rest = rw (string_row_of who s full, zeros_row_of who s full (legal_len s lawful).1) (is_zeros (14 - s.len));
})
