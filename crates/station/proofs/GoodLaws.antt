-- The rules of the list as facts.
use Prim.Native.Nat.{ℕ, ◌*◌, ◌≤◌, ◌<◌}
use native.Mathlib.Omega.{arith}
use mathlib.Core.Path.{◌≡◌, sym}
use mathlib.Core.Bool.{true, false, ◌&&◌}
use mathlib.Core.List.{List}
use lib.ListN.{length}
use borrow.Author.Tests.{not-true}
use Rattle.rows.specs.Words.{all, first}
use Rattle.rows.specs.Rows.{row}
use Rattle.rows.proofs.BoolLaws.{by_test, by_eq, both, refuted, and_left, and_right}
use Rattle.rows.proofs.IndexLaws.{Passing, all_at, all_from, any_at, none_at, none_from, first_found, first_most, found_if, first_least}
use Rattle.terms.proofs.TableLaws.{OneRow, alone_one, one_alone}
use Rattle.station.specs.State.{places, unused}
use Rattle.station.specs.Good.{good_place, good_at, in_front, alone_at, good_list}

-- each place keeps the rules by itself, of the places that hold a string there is one at most, and the used places come first
pub record Good (n : ℕ) (l : List ℕ) : Type 0 where
  pub sized : length l ≡ 14 * n
  pub each : (i : ℕ) → i < n → good_place (row 14 l i) ≡ true
  pub one_place : OneRow places l n
  pub used_first : (i j : ℕ) → unused l i ≡ true → i ≤ j → j < n → unused l j ≡ true

module _ (n : ℕ) (l : List ℕ) where
  front_first : all (in_front l) n ≡ true → (i j : ℕ) → unused l i ≡ true → i ≤ j → j < n → unused l j ≡ true
  unfolding in_front
  front_first a i j u h m = by_test (unused l j) (λ y. y) (λ used. by_eq i j
      (λ (e : i ≡ j). rw e at u)
      (λ ne. both u (none_at (unused l) j i (not-true _ (rw used at (all_at (in_front l) n j a m))) (omega arith))))

  pub good_is : length l ≡ 14 * n → good_list n l ≡ true → Good n l
  unfolding good_list good_at
  good_is sized h =
      let e = all (good_at l) n in
      let f = all (in_front l) n in
      let a = all (alone_at l) n in
      let rest = and_right e (f && a) h in record {
        sized = sized;
        each = λ i b. all_at (good_at l) n i (and_left e (f && a) h) b;
        one_place = alone_one places l n (and_right f a rest);
        used_first = front_first (and_left f a rest);
      }

  facts_front : Good n l → (i : ℕ) → i < n → in_front l i ≡ true
  unfolding in_front
  facts_front g i b = by_test (unused l i)
      (λ f. rw f)
      (λ u. rw (u, none_from (unused l) i (λ j m. sym (refuted _ (λ f. both (g.used_first j i f (omega arith) b) u)))))

  pub is_good : Good n l → good_list n l ≡ true
  unfolding good_list good_at
  is_good g = rw (all_from (good_at l) n g.each, all_from (in_front l) n (facts_front g), one_alone places l n g.one_place)

-- the used places of a list: those before the first unused one keep the rule, and a used one behind it breaks it
module _ (l : List ℕ) (n : ℕ) where
  pub front_starts : Passing (in_front l) n (first (unused l) n)
  unfolding in_front
  front_starts = (first_most (unused l) n, all_from (in_front l) (first (unused l) n) (λ i b. rw (first_least (unused l) n i b, none_from (unused l) i (λ j m. first_least (unused l) n j (omega arith)))))

  pub front_breaks : (i : ℕ) → first (unused l) n ≤ i → i < n → unused l i ≡ false → in_front l i ≡ false
  unfolding in_front
  front_breaks i h b used =
      let found = first_found (unused l) n (found_if (unused l) n (omega arith)) in
      by_eq (first (unused l) n) i
      (λ (e : first (unused l) n ≡ i). both (rw e at found.1) used)
      (λ ne. rw (used, any_at (unused l) i (first (unused l) n) (omega arith) found.1))
