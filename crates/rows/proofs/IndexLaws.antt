-- The laws of `all`, `any` and `first`: what a loop over an index shows, stated once.
use Prim.Native.Nat.{ℕ, zero, suc, ◌+◌, ◌≤◌, ◌<◌}
use native.Mathlib.Nat.{le_antisymm, le_of_suc-le-suc, not-suc-le-zero, eq-or-lt_of_le}
use native.Mathlib.Numerals.{add-one}
use native.Mathlib.Omega.{arith}
use mathlib.Core.Path.{◌≡◌, refl, sym, ap, ◌∙◌, subst}
use mathlib.Core.Logic.{⊎_elim}
use mathlib.Core.Bool.{Bool, true, false, not, ◌&&◌, ◌||◌, and-or_distrib_right, or-true, or-false}
use lib.Dec.{ltb}
use borrow.Author.Tests.{lt-ltb, le-ltb, not-true, not-false}
use Rattle.rows.proofs.BoolLaws.{by_test, by_eq, both, and_fails, and_both}
use Rattle.rows.specs.Words.{all, any, first, fails}

module _ (p : ℕ → Bool) where
  -- where p fails at one index, it does not hold at all
  pub all_breaks : (n i : ℕ) → i < n → p i ≡ false → all p n ≡ false
  unfolding all
  all_breaks zero i l h = absurd (not-suc-le-zero l)
  all_breaks (suc n) i l h = ⊎_elim
      (λ e. and_fails (all p n) (p n) (ap p (sym e) ∙ h))
      (λ lt. rw (all_breaks n i lt h))
      (eq-or-lt_of_le (le_of_suc-le-suc l))

  -- where p holds at one index, it holds at some
  pub any_at : (n i : ℕ) → i < n → p i ≡ true → any p n ≡ true
  unfolding any
  any_at zero i l h = absurd (not-suc-le-zero l)
  any_at (suc n) i l h = ⊎_elim
      (λ e. last (any p n) (p n) (ap p (sym e) ∙ h))
      (λ lt. rw (any_at n i lt h))
      (eq-or-lt_of_le (le_of_suc-le-suc l))
    where
      last : (a b : Bool) → b ≡ true → (a || b) ≡ true
      last true b e = refl
      last false b e = e

  -- what `all` says of each index, and the other way
  pub all_at : (n i : ℕ) → all p n ≡ true → i < n → p i ≡ true
  all_at n i a l = by_test (p i) (λ y. y) (λ h. both a (all_breaks n i l h))

  pub all_from : (n : ℕ) → ((i : ℕ) → i < n → p i ≡ true) → all p n ≡ true
  unfolding all
  all_from zero h = refl
  all_from (suc n) h = rw (all_from n (λ i l. h i (omega arith)), h n (omega arith))

  -- what a failing `any` says of each index, and the other way
  pub none_at : (n i : ℕ) → any p n ≡ false → i < n → p i ≡ false
  none_at n i a l = by_test (p i) (λ h. both (any_at n i l h) a) (λ y. y)

  pub none_from : (n : ℕ) → ((i : ℕ) → i < n → p i ≡ false) → any p n ≡ false
  unfolding any
  none_from zero h = refl
  none_from (suc n) h = rw (none_from n (λ i l. h i (omega arith)), h n (omega arith))

  -- a search: none below i and p at i; none at all
  pub first_hit : (n i : ℕ) → i < n → any p i ≡ false → p i ≡ true → first p n ≡ i
  unfolding first
  first_hit zero i l a h = absurd (not-suc-le-zero l)
  first_hit (suc n) i l a h = ⊎_elim
      (λ e. rw (e, rw e at a, rw e at h))
      (λ lt. rw (any_at n i lt h, first_hit n i lt a h))
      (eq-or-lt_of_le (le_of_suc-le-suc l))

  pub first_none : (n : ℕ) → any p n ≡ false → first p n ≡ n
  unfolding first
  first_none zero a = refl
  first_none (suc n) a = rw (none_at (suc n) n a (omega arith), none_from n (λ i l. none_at (suc n) i a (omega arith)))

  -- what was found
  pub first_found : (n : ℕ) → any p n ≡ true → (first p n < n) × (p (first p n) ≡ true)
  unfolding first any
  first_found zero a = both a refl
  first_found (suc n) a = by_test (any p n)
      (λ y. let ih = first_found n y in rw y (omega (arith, ih.0), ih.1))
      (λ m. by_test (p n) (λ h. rw (m, h) (omega arith, h)) (λ h. both a (rw (m, h))))

  pub first_most : (n : ℕ) → first p n ≤ n
  first_most n = by_test (any p n) (λ y. omega (arith, (first_found n y).0)) (λ m. omega (arith, first_none n m))

  -- the test by which code tells whether a search found something
  pub first_below : (n : ℕ) → ltb (first p n) n ≡ any p n
  first_below n = by_test (any p n)
      (λ y. lt-ltb _ _ (first_found n y).0 ∙ sym y)
      (λ m. le-ltb (first p n) n (omega (arith, first_none n m)) ∙ sym m)

  pub found_if : (n : ℕ) → first p n < n → any p n ≡ true
  found_if n h = sym (first_below n) ∙ lt-ltb _ _ h

  pub missing_if : (n : ℕ) → n ≤ first p n → any p n ≡ false
  missing_if n h = sym (first_below n) ∙ le-ltb _ _ h

-- two tests beside each other, below n
module _ (p q : ℕ → Bool) where
  -- with one answer at each index
  pub any_same : (n : ℕ) → ((i : ℕ) → i < n → q i ≡ p i) → any q n ≡ any p n
  unfolding any
  any_same zero h = refl
  any_same (suc n) h = rw (any_same n (λ i l. h i (omega arith)), h n (omega arith))

  pub first_same : (n : ℕ) → ((i : ℕ) → i < n → q i ≡ p i) → first q n ≡ first p n
  unfolding first
  first_same zero h = refl
  first_same (suc n) h =
      rw (any_same n (λ i l. h i (omega arith)), first_same n (λ i l. h i (omega arith)), h n (omega arith))

  -- where the one is the other and a further test b that is the same at each index
  pub any_and : (n : ℕ) (b : Bool) → ((i : ℕ) → i < n → q i ≡ (p i && b)) → any q n ≡ (any p n && b)
  unfolding any
  any_and zero b h = refl
  any_and (suc n) b h = rw (any_and n b (λ i l. h i (omega arith)), h n (omega arith)) (sym (and-or_distrib_right (any p n) (p n) b))

  -- where they differ at k alone, at which p fails
  pub any_set : (n k : ℕ) → k < n → p k ≡ false → ((i : ℕ) → i < n → (i ≡ k → ⊥) → q i ≡ p i) → any q n ≡ (any p n || q k)
  any_set n k l fails others = by_test (q k)
      (λ y. any_at q n k l y ∙ sym (rw y (or-true (any p n))))
      (λ m. any_same n (λ i b. by_eq i k (λ (e : i ≡ k). rw e (m ∙ sym fails)) (others i b)) ∙ sym (rw m (or-false (any p n))))

-- below the first index at which p holds, it fails
pub first_least : (p : ℕ → Bool) (n i : ℕ) → i < first p n → p i ≡ false
unfolding first
first_least p zero i l = absurd (not-suc-le-zero l)
first_least p (suc n) i l = by_test (any p n)
    (λ y. first_least p n i (rw y at l))
    (λ f. by_test (p n)
    (λ h. none_at p n i f (rw (f, h) at l))
    (λ h. by_eq i n
    (λ e. rw e h)
    (λ ne. let m : i < suc n = rw (f, h) at l in none_at p n i f (omega arith))))

-- where p fails, and where it holds
module _ (p : ℕ → Bool) where
  pub fails_at : {i : ℕ} → p i ≡ false → fails p i ≡ true
  unfolding fails
  fails_at h = ap not h

  pub holds_at : {i : ℕ} → p i ≡ true → fails p i ≡ false
  unfolding fails
  holds_at h = ap not h

  -- and back
  pub at_fails : (i : ℕ) → fails p i ≡ true → p i ≡ false
  unfolding fails
  at_fails i h = not-true (p i) h

  pub at_holds : (i : ℕ) → fails p i ≡ false → p i ≡ true
  unfolding fails
  at_holds i h = not-false (p i) h

  -- p holds at every index below n just where no search for one at which it fails ends before n
  pub all_first : (n : ℕ) → all p n ≡ not (ltb (first (fails p) n) n)
  all_first n = by_test (any (fails p) n)
      (λ y. let at = first_found (fails p) n y in all_breaks p n (first (fails p) n) at.0 (at_fails _ at.1) ∙ sym (ap not (first_below (fails p) n ∙ y)))
      (λ m. all_from p n (λ i l. at_holds i (none_at (fails p) n i m l)) ∙ sym (ap not (first_below (fails p) n ∙ m)))

  -- where a search for one ends before n, p fails
  pub stops_at : (n : ℕ) → first (fails p) n < n → p (first (fails p) n) ≡ false
  stops_at n l = at_fails _ (first_found (fails p) n (found_if (fails p) n l)).1

  pub all_passes : (n : ℕ) → all p n ≡ true → n ≡ first (fails p) n
  all_passes n a = sym (first_none (fails p) n (none_from (fails p) n (λ i l. holds_at (all_at p n i a l))))

-- the first index at which one of two tests fails: where the second fails, looked for before the first index at which the first does
pub first_fails_both : (p q : ℕ → Bool) (n : ℕ) → first (fails q) (first (fails p) n) ≡ first (fails (λ i. p i && q i)) n
first_fails_both p q n = by_test (any (fails q) m)
    (λ y. let at = first_found (fails q) m y in
    let k = first (fails q) m in
    sym (first_hit (fails both_hold) n k (omega (arith, at.0, first_most (fails p) n)) (none_below k (omega (arith, at.0)) (λ i l. first_least (fails q) m i l)) (fails_at both_hold (and_fails (p k) (q k) (at_fails q k at.1)))))
    (λ none. first_none (fails q) m none ∙ by_test (any (fails p) n)
    (λ y. let at = first_found (fails p) n y in
    sym (first_hit (fails both_hold) n m at.0 (none_below m (omega arith) (λ i l. none_at (fails q) m i none l)) (fails_at both_hold (rw (at_fails p m at.1)))))
    (λ z. first_none (fails p) n z ∙ sym (first_none (fails both_hold) n (none_from (fails both_hold) n (λ i l. one_holds i (none_at (fails p) n i z l) (none_at (fails q) m i none (omega (arith, first_none (fails p) n z))))))))
  where
    m : ℕ
    m = first (fails p) n

    both_hold : ℕ → Bool
    both_hold i = p i && q i

    one_holds : (i : ℕ) → fails p i ≡ false → fails q i ≡ false → fails both_hold i ≡ false
    one_holds i a b = holds_at both_hold (and_both (at_holds p i a) (at_holds q i b))

    none_below : (k : ℕ) → k ≤ m → ((i : ℕ) → i < k → fails q i ≡ false) → any (fails both_hold) k ≡ false
    none_below k l h = none_from (fails both_hold) k (λ i b. one_holds i (first_least (fails p) n i (omega arith)) (h i b))

-- the invariants of a search and of a test of every index, and what a turn, a return and the end make of them
abbrev pub Searching : (ℕ → Bool) → ℕ → ℕ → Type 0
Searching p n i = (i ≤ n) × (any p i ≡ false)

abbrev pub Passing : (ℕ → Bool) → ℕ → ℕ → Type 0
Passing p n i = (i ≤ n) × (all p i ≡ true)

module _ (p : ℕ → Bool) (n : ℕ) where
  pub search_starts : Searching p n 0
  unfolding any
  search_starts = (omega arith, refl)

  pub search_on : {i : ℕ} → Searching p n i → i < n → p i ≡ false → Searching p n (i + 1)
  unfolding any
  search_on {i} s l h = (omega arith, rw (add-one, s.1, h))

  pub search_hit : {i : ℕ} → Searching p n i → i < n → p i ≡ true → i ≡ first p n
  search_hit {i} s l h = sym (first_hit p n i l s.1 h)

  pub search_ends : {i : ℕ} → Searching p n i → n ≤ i → n ≡ first p n
  search_ends {i} s g = sym (first_none p n (subst (λ (k : ℕ). any p k ≡ false) (le_antisymm s.0 g) s.1))

  pub pass_starts : Passing p n 0
  unfolding all
  pass_starts = (omega arith, refl)

  pub pass_on : {i : ℕ} → Passing p n i → i < n → p i ≡ true → Passing p n (i + 1)
  unfolding all
  pass_on {i} s l h = (omega arith, rw (add-one, s.1, h))

  pub pass_breaks : {i : ℕ} → i < n → p i ≡ false → false ≡ all p n
  pass_breaks {i} l h = sym (all_breaks p n i l h)

  pub pass_ends : {i : ℕ} → Passing p n i → n ≤ i → true ≡ all p n
  pass_ends {i} s g = sym (subst (λ (k : ℕ). all p k ≡ true) (le_antisymm s.0 g) s.1)
