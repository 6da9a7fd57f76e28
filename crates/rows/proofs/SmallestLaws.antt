-- The smallest so far: what a loop that looks for the smallest shows, stated once over any test p and any measure m.
use Prim.Native.Nat.{ℕ, zero, suc, ◌+◌, ◌≤◌, ◌<◌}
use native.Mathlib.Nat.{le_antisymm}
use native.Mathlib.Numerals.{add-one}
use native.Mathlib.Omega.{arith}
use mathlib.Core.Path.{◌≡◌, refl, sym, ap, ◌∙◌, subst}
use mathlib.Core.Logic.{◌⊎◌, inl, inr, ⊎_elim}
use mathlib.Core.Bool.{Bool, true, false, cond, not, ◌&&◌, ◌||◌}
use lib.Dec.{leb, ltb}
use borrow.Author.Tests.{ltb-true, ltb-false, lt-ltb, le-ltb, le-leb, lt-leb}
use Rattle.rows.proofs.BoolLaws.{by_test, both, and_both, and_left, and_right, or_from}
use Rattle.rows.proofs.IndexLaws.{all_from, all_breaks, none_at, none_from, first_hit, first_none, search_on}
use Rattle.rows.specs.Words.{any, none_smaller, smallest}

-- among the indices below i the smallest stands at best: p holds there, at none of them m is smaller, and at none before it as small
pub record Smallest (p : ℕ → Bool) (m : ℕ → ℕ) (i best : ℕ) : Type 0 where
  pub below : best < i
  pub fits : p best ≡ true
  pub least : (j : ℕ) → j < i → p j ≡ true → m best ≤ m j
  pub before : (j : ℕ) → j < best → p j ≡ true → m best < m j

module _ (p : ℕ → Bool) (m : ℕ → ℕ) where
  -- one index more: it is the first at which p holds; smaller than the smallest; or neither
  small_begins : (i : ℕ) → any p i ≡ false → p i ≡ true → Smallest p m (i + 1) i
  small_begins i none here = record {
    below = omega arith;
    fits = here;
    least = λ j l y. by_test (ltb j i)
        (λ t. both y (none_at p i j none (ltb-true j i t)))
        (λ t. let e : j ≡ i = omega (arith, ltb-false j i t) in omega (arith, ap m e));
    before = λ j l y. both y (none_at p i j none l);
  }

  small_takes : (i best : ℕ) → Smallest p m i best → p i ≡ true → m i < m best → Smallest p m (i + 1) i
  small_takes i best s here less = record {
    below = omega arith;
    fits = here;
    least = λ j l y. by_test (ltb j i)
        (λ t. omega (arith, s.least j (ltb-true j i t) y))
        (λ t. let e : j ≡ i = omega (arith, ltb-false j i t) in omega (arith, ap m e));
    before = λ j l y. omega (arith, s.least j l y);
  }

  small_stays : (i best : ℕ) → Smallest p m i best → (p i ≡ true → m best ≤ m i) → Smallest p m (i + 1) best
  small_stays i best s more = record {
    below = omega (arith, s.below);
    fits = s.fits;
    least = λ j l y. by_test (ltb j i)
        (λ t. s.least j (ltb-true j i t) y)
        (λ t. let e : j ≡ i = omega (arith, ltb-false j i t) in omega (arith, ap m e, more (ap p (sym e) ∙ y)));
    before = s.before;
  }

  -- what was found is `smallest`
  module _ (n : ℕ) where
    smallest_is : (best : ℕ) → Smallest p m n best → best ≡ smallest p m n
    unfolding smallest none_smaller
    smallest_is best s = sym (first_hit (none_smaller p m n) n best s.below (none_from (none_smaller p m n) best earlier) (and_both s.fits (all_from _ n (λ j l. or_from (not (p j)) _ (λ holds. le-leb _ _ (s.least j l (held (p j) holds)))))))
      where
        held : (b : Bool) → not b ≡ false → b ≡ true
        held true h = refl
        held false h = sym h

        earlier : (j : ℕ) → j < best → none_smaller p m n j ≡ false
        earlier j l = by_test (p j)
            (λ y. rw y (all_breaks (λ k. not (p k) || leb (m j) (m k)) n best s.below (rw s.fits (lt-leb _ _ (s.before j l y)))))
            (λ none. rw none)

    pub smallest_none : any p n ≡ false → smallest p m n ≡ n
    unfolding smallest none_smaller
    smallest_none none = first_none (none_smaller p m n) n (none_from (none_smaller p m n) n (λ j l. rw (none_at p n j none l)))

  -- where p holds somewhere there is a smallest
  there : (n : ℕ) → any p n ≡ true → (best : ℕ) × Smallest p m n best
  unfolding any
  there zero some = both some refl
  there (suc n) some = by_test (any p n)
      (λ y. let old = there n y in by_test (p n && ltb (m n) (m old.0))
      (λ t. one_more n (small_takes n old.0 old.1 (and_left (p n) _ t) (ltb-true _ _ (and_right (p n) _ t))))
      (λ t. one_more old.0 (small_stays n old.0 old.1 (λ here. ltb-false _ _ (rw here at t)))))
      (λ none. one_more n (small_begins n none (rw none at some)))
    where
      one_more : (best : ℕ) → Smallest p m (n + 1) best → (best' : ℕ) × Smallest p m (suc n) best'
      one_more best s = (best, subst (λ (k : ℕ). Smallest p m k best) (add-one n) s)

  pub smallest_there : (n : ℕ) → any p n ≡ true → Smallest p m n (smallest p m n)
  smallest_there n some = let at = there n some in subst (Smallest p m n) (smallest_is n at.0 at.1) at.1

  -- the test by which code tells whether there is one
  pub smallest_below : (n : ℕ) → ltb (smallest p m n) n ≡ any p n
  smallest_below n = by_test (any p n)
      (λ y. lt-ltb _ _ (smallest_there n y).below ∙ sym y)
      (λ none. le-ltb (smallest p m n) n (omega (arith, smallest_none n none)) ∙ sym none)

-- the invariant of a loop: best is the smallest of those before i, and least its measure; or none was met, and they are n and top, which
-- is above every measure
abbrev pub SmallestSoFar : (ℕ → Bool) → (ℕ → ℕ) → ℕ → ℕ → ℕ → ℕ → ℕ → Type 0
SmallestSoFar p m top n i best least =
    (i ≤ n) × (((any p i ≡ false) × (best ≡ n) × (least ≡ top)) ⊎ (Smallest p m i best × (least ≡ m best)))

module _ (p : ℕ → Bool) (m : ℕ → ℕ) (top n : ℕ) (above : (i : ℕ) → i < n → m i < top) where
  -- a turn: w is the measure at i where p holds there, and top where not
  module _ {i best least : ℕ} (s : SmallestSoFar p m top n i best least) (l : i < n) (w : ℕ) (weighs : w ≡ cond (p i) (m i) top) where
    least_most : least ≤ top
    least_most = ⊎_elim
        (λ none. omega (arith, none.2))
        (λ some. omega (arith, some.1, above best (omega (arith, some.0.below))))
        s.1

    weighed : p i ≡ true → w ≡ m i
    weighed y = weighs ∙ rw y

    pub so_far_takes : w < least → SmallestSoFar p m top n (i + 1) i w
    so_far_takes less =
        let here : p i ≡ true = by_test (p i) (λ y. y) (λ f. let heavy : w ≡ top = weighs ∙ (rw f) in absurd (omega (arith, least_most))) in (
          omega arith,
          inr (
            ⊎_elim
                (λ none. small_begins p m i none.0 here)
                (λ some. small_takes p m i best some.0 here (omega (arith, some.1, weighed here)))
                s.1,
            weighed here,
          ),
        )

    pub so_far_stays : least ≤ w → SmallestSoFar p m top n (i + 1) best least
    so_far_stays more = (
      omega arith,
      ⊎_elim
          (λ none. inl ((search_on p n (omega arith, none.0) l (by_test (p i) (λ y. absurd (omega (arith, none.2, weighed y, above i l))) (λ f. f))).1, none.1, none.2))
          (λ some. inr (small_stays p m i best some.0 (λ y. omega (arith, some.1, weighed y)), some.1))
          s.1,
    )

  pub so_far_ends : {i best least : ℕ} → SmallestSoFar p m top n i best least → n ≤ i → best ≡ smallest p m n
  so_far_ends {i} {best} {least} s g =
      let e : i ≡ n = le_antisymm s.0 g in
      ⊎_elim
      (λ none. none.1 ∙ sym (smallest_none p m n (subst (λ (k : ℕ). any p k ≡ false) e none.0)))
      (λ some. smallest_is p m n best (subst (λ (k : ℕ). Smallest p m k best) e some.0))
      s.1
