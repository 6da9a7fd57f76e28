-- The rules of the lock table as facts.
use Prim.Native.Nat.{ℕ, ◌*◌, ◌<◌}
use native.Mathlib.Omega.{arith}
use mathlib.Core.Path.{◌≡◌, ap}
use mathlib.Core.Bool.{Bool, true, ◌&&◌}
use mathlib.Core.List.{List}
use lib.Dec.{eqb}
use lib.ListN.{length}
use borrow.Author.Tests.{eqb-true, eq-eqb}
use Rattle.rows.specs.Words.{all}
use Rattle.rows.specs.Rows.{row}
use Rattle.rows.proofs.BoolLaws.{and_left, and_right}
use Rattle.rows.proofs.IndexLaws.{all_at, all_from}
use Rattle.terms.proofs.TableLaws.{OneRow, alone_one, one_alone}
use Rattle.locks.specs.Row.{lock_rows}
use Rattle.locks.specs.Table.{row_count}
use Rattle.locks.specs.Good.{sound_row, sound_at, sound_rows, alone_at}

-- a table of n rows has n rows
pub count_is : (n : ℕ) (t : List ℕ) → length t ≡ 16 * n → row_count t ≡ n
count_is n t sized = omega arith

-- each row keeps the rules by itself, and of the rows that hold a string there is one at most
pub record Good (n : ℕ) (w : ℕ → Bool) (t : List ℕ) : Type 0 where
  pub sized : length t ≡ 16 * n
  pub each : (i : ℕ) → i < n → sound_row w (row 16 t i) ≡ true
  pub one_row : OneRow lock_rows t n

module _ (n : ℕ) (w : ℕ → Bool) (t : List ℕ) where
  pub good_is : sound_rows n w t ≡ true → Good n w t
  unfolding sound_rows sound_at
  good_is h =
      let z = eqb (length t) (16 * n) in
      let e = all (sound_at w t) n in
      let a = all (alone_at t) n in
      let h₁ = and_right z (e && a) h in record {
        sized = eqb-true _ _ (and_left z (e && a) h);
        each = λ i l. all_at (sound_at w t) n i (and_left e a h₁) l;
        one_row = alone_one lock_rows t n (and_right e a h₁);
      }

  pub is_good : Good n w t → sound_rows n w t ≡ true
  unfolding sound_rows sound_at
  is_good g = rw (eq-eqb _ _ g.sized, all_from (sound_at w t) n g.each, one_alone lock_rows t n g.one_row)

-- the rules ask nothing of the records but who is logged in
pub sound_same : (n : ℕ) (t : List ℕ) (f g : ℕ → Bool) → ((a : ℕ) → f a ≡ g a) → sound_rows n f t ≡ sound_rows n g t
sound_same n t f g same = ap (λ (h : ℕ → Bool). sound_rows n h t) (λ i a. same a i)
