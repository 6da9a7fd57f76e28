-- The laws of `build`, `same` and `zeros`: lists by their elements.
use Prim.Native.Nat.{ℕ, zero, suc, ◌+◌, ◌-◌, ◌≤◌, ◌<◌}
use native.Mathlib.Nat.{le_antisymm, le_of_suc-le-suc, not-suc-le-zero, eq-or-lt_of_le}
use native.Mathlib.Numerals.{add-one}
use native.Mathlib.Omega.{arith}
use mathlib.Core.Path.{◌≡◌, refl, sym, ap, ◌∙◌}
use mathlib.Core.Logic.{⊎_elim}
use mathlib.Core.Bool.{true}
use mathlib.Core.List.{List, [], ◌∷◌, ◌++◌, append-nil}
use lib.Dec.{eqb}
use lib.ListN.{length, take, drop, get_or, set, replicate, length-append, length-replicate, get_or-replicate, get_or-append, drop_of_length-le, replicate-append-replicate}
use lib.Seq.{drop_at, drop-cons, set_at, append_snoc, ext_get_or, get_or_at}
use borrow.Author.Tests.{eqb-true, eq-eqb}
use Rattle.rows.proofs.BoolLaws.{and_left, and_right, and_both}
use Rattle.rows.proofs.IndexLaws.{all_at, all_from}
use Rattle.rows.specs.Words.{all, build, same_at, same, zero_at, zeros}

module _ {A : Type 0} (f : ℕ → A) where
  pub length_build : (n : ℕ) → length (build f n) ≡ n
  unfolding build
  length_build zero = refl
  length_build (suc n) = simp (length-append, length_build n) (omega arith)

  pub get_D_build : (n k : ℕ) (d : A) → k < n → get_or (build f n) k d ≡ f k
  unfolding build
  get_D_build zero k d l = absurd (not-suc-le-zero l)
  get_D_build (suc n) k d l = ⊎_elim
      (λ e. rw e (get_or_at (build f n) (f n) [] d n (length_build n)))
      (λ lt. get_or-append (build f n) (f n ∷ []) d k (rw length_build lt) ∙ get_D_build n k d lt)
      (eq-or-lt_of_le (le_of_suc-le-suc l))

  -- a loop that stores f k at k: its begin, a turn's store and its end
  pub build_none : (l : List A) → l ≡ build f 0 ++ drop 0 l
  unfolding build
  build_none l = refl

  pub build_store : (l : List A) (k : ℕ) → k < length l → set (build f k ++ drop k l) k (f k) ≡ build f (k + 1) ++ drop (k + 1) l
  unfolding build
  build_store l k h =
      rw (add-one, drop-cons l k (f k) h)
      (set_at (build f k) (get_or l k (f k)) (drop (suc k) l) (f k) k (length_build k)
      ∙ sym (append_snoc (build f k) (f k) (drop (suc k) l)))

  pub build_done : (l : List A) (n k : ℕ) → k ≤ n → n ≤ k → length l ≤ n → build f k ++ drop k l ≡ build f n
  build_done l n k a b h =
      ap (λ (j : ℕ). build f j ++ drop j l) (le_antisymm a b)
      ∙ rw (drop_of_length-le l h) (append-nil (build f n))

-- a list is what its elements build
pub build_list : (l : List ℕ) (n : ℕ) → length l ≡ n → build (λ k. get_or l k 0) n ≡ l
build_list l n h = ext_get_or 0 _ _ (length_build _ n ∙ sym h)
    (λ i b. get_D_build _ n i 0 (omega (arith, length_build (λ k. get_or l k 0) n)))

-- two lists are the same where they are equal
pub same_is : (a b : List ℕ) → same a b ≡ true → a ≡ b
unfolding same same_at
same_is a b h = ext_get_or 0 a b
    (eqb-true _ _ (and_left (eqb (length a) (length b)) (all (same_at a b) (length a)) h))
    (λ i l. eqb-true _ _ (all_at (same_at a b) (length a) i (and_right (eqb (length a) (length b)) (all (same_at a b) (length a)) h) l))

pub same_refl : (a : List ℕ) → same a a ≡ true
unfolding same same_at
same_refl a = and_both (eq-eqb (length a) (length a) refl) (all_from (same_at a a) (length a) (λ i l. eq-eqb (get_or a i 0) (get_or a i 0) refl))

-- zeros are a list of zeros
pub zeros_is : (l : List ℕ) → zeros l ≡ true → l ≡ replicate (length l) 0
unfolding zeros zero_at
zeros_is l h = ext_get_or 0 l (replicate (length l) 0) (sym (length-replicate (length l) 0))
    (λ i b. eqb-true _ _ (all_at (zero_at l) (length l) i h b) ∙ sym (get_or-replicate (length l) i 0 0 b))

pub is_zeros : (n : ℕ) → zeros (replicate n 0) ≡ true
unfolding zeros zero_at
is_zeros n = all_from (zero_at (replicate n 0)) (length (replicate n 0))
    (λ i b. eq-eqb _ _ (get_or-replicate n i 0 0 (rw length-replicate at b)))

-- the zeros behind the first k of n
pub drop_zeros : (n k : ℕ) → k ≤ n → drop k (replicate n 0) ≡ replicate {A = ℕ} (n - k) 0
drop_zeros n k h =
    let split : n ≡ k + (n - k) = omega arith in
    ap (λ (m : ℕ). drop k (replicate m 0)) split
    ∙ ap (drop k) (sym (replicate-append-replicate k (n - k) 0))
    ∙ drop_at (replicate k 0) (replicate (n - k) 0) k (length-replicate k 0)

-- the first k of n zeros
pub take_zeros : (n k : ℕ) → k ≤ n → take k (replicate n 0) ≡ replicate {A = ℕ} k 0
take_zeros n zero h = refl
take_zeros zero (suc k) h = absurd (not-suc-le-zero h)
take_zeros (suc n) (suc k) h = ap (λ (l : List ℕ). 0 ∷ l) (take_zeros n k (le_of_suc-le-suc h))
