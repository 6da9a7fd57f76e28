-- What lock, unlock and clear do to the rows.
use Prim.Native.Nat.{ℕ, ◌*◌, ◌≤◌, ◌<◌}
use native.Mathlib.Omega.{arith}
use mathlib.Core.Path.{◌≡◌, refl}
use mathlib.Core.Bool.{Bool, true, false, cond, ◌&&◌}
use mathlib.Core.List.{List}
use lib.Dec.{eqb}
use lib.ListN.{length}
use borrow.Author.Tests.{eqb-true, eq-eqb, ne_eqb}
use Rattle.rows.specs.Words.{any}
use Rattle.rows.specs.Rows.{row}
use Rattle.rows.proofs.BoolLaws.{by_test, by_eq, and_left, and_right}
use Rattle.rows.proofs.IndexLaws.{any_at, first_found}
use Rattle.rows.proofs.RowLaws.{length_set_row, row_set_row, row_set_row_other, length_each_row, row_each_row}
use Rattle.terms.specs.declared.LockString.{LockString}
use Rattle.terms.specs.Strings.{legal}
use Rattle.terms.specs.Tables.{holds, row_in, row_free, row_holds}
use Rattle.locks.specs.Row.{is_free, lock_rows, free_row, row_of, freed}
use Rattle.locks.specs.Table.{row_count, holds_at, free_at, owner_at, held_at, lowest_free, is_held, is_own, lock_table, unlocks, unlock_table, cleared_table}
use Rattle.locks.proofs.LockRowLaws.{length_row_of, freed_long}
use Rattle.locks.proofs.Cases.{lock_granted}

-- t' is t with r as its row k, which was free
pub record Fills (k : ℕ) (r t t' : List ℕ) : Type 0 where
  pub long : length t' ≡ length t
  pub inside : k < row_count t
  pub was : is_free (row 16 t k) ≡ true
  pub here : row 16 t' k ≡ r
  pub there : (i : ℕ) → (i ≡ k → ⊥) → row 16 t' i ≡ row 16 t i

-- t' is t with those rows freed at which f holds
pub record Frees (f : ℕ → Bool) (t t' : List ℕ) : Type 0 where
  pub long : length t' ≡ length t
  pub rows : (i : ℕ) → i < row_count t → row 16 t' i ≡ cond (f i) free_row (row 16 t i)

module _ (t : List ℕ) where
  whole : 16 * row_count t ≤ length t
  whole = omega arith

  -- the row of a string that is held
  pub held_row : (s : LockString) → is_held t s ≡ true → (held_at t s < row_count t) × (holds lock_rows s (row 16 t (held_at t s)) ≡ true)
  unfolding is_held held_at row_in row_holds
  held_row s h = first_found (holds_at t s) (row_count t) h

  pub row_held : (s : LockString) (i : ℕ) → i < row_count t → holds lock_rows s (row 16 t i) ≡ true → is_held t s ≡ true
  unfolding is_held row_in row_holds
  row_held s i l h = any_at (holds_at t s) (row_count t) i l h

  -- the owner of a string that is the sender's
  pub own_row : (who : ℕ) (s : LockString) → is_own t who s ≡ true → (is_held t s ≡ true) × (owner_at t (held_at t s) ≡ who)
  unfolding is_own
  own_row who s h =
      let o = eqb (owner_at t (held_at t s)) who in
      (and_left (is_held t s) o h, eqb-true _ _ (and_right (is_held t s) o h))

  pub lock_fills : (who : ℕ) (s : LockString) → length s.bytes ≡ 13 → legal s ≡ true → is_held t s ≡ false → any (free_at t) (row_count t) ≡ true
      → Fills (lowest_free t) (row_of who s) t (lock_table t who s)
  unfolding lowest_free row_in row_free
  lock_fills who s full l h f =
      let free = first_found (free_at t) (row_count t) f in
      let long = length_row_of who s full in
      rw (← (lock_granted t who s l h f).left) (record {
        long = length_set_row 16 (row_count t) t whole (lowest_free t) free.0 (row_of who s) long;
        inside = free.0;
        was = free.1;
        here = row_set_row 16 (row_count t) t whole (lowest_free t) free.0 (row_of who s) long;
        there = row_set_row_other 16 (row_count t) t whole (lowest_free t) free.0 (row_of who s) long;
      })

  pub unlock_frees : (who : ℕ) (s : LockString) → Frees (λ i. unlocks t who s && eqb i (held_at t s)) t (unlock_table t who s)
  unfolding unlock_table
  unlock_frees who s = by_test (unlocks t who s)
      (λ y.
      let l = (held_row s (own_row who s (and_right (legal s) (is_own t who s) (unfold unlocks in y))).0).0 in
      rw y (record {
        long = length_set_row 16 (row_count t) t whole (held_at t s) l free_row refl;
        rows = λ i b. by_eq i (held_at t s)
            (λ (e : i ≡ held_at t s). rw (e, eq-eqb (held_at t s) (held_at t s) refl) (row_set_row 16 (row_count t) t whole (held_at t s) l free_row refl))
            (λ ne. rw (ne_eqb i (held_at t s) ne) (row_set_row_other 16 (row_count t) t whole (held_at t s) l free_row refl i ne));
      }))
      (λ m. rw m (record { long = refl; rows = λ i b. refl }))

  pub clear_frees : (who : ℕ) → Frees (λ i. eqb (owner_at t i) who) t (cleared_table t who)
  unfolding cleared_table freed owner_at
  clear_frees who = record {
    long = length_each_row 16 (freed who) (freed_long who) (row_count t) t whole (row_count t) (omega arith);
    rows = λ i b. row_each_row 16 (freed who) (freed_long who) (row_count t) t whole (row_count t) i (omega arith) b;
  }
