-- The cases of lock and unlock, one law each: what the tests say, and what is answered and left.
use Prim.Native.Nat.{ℕ, ◌<◌}
use native.Mathlib.Omega.{arith}
use mathlib.Core.Path.{◌≡◌}
use mathlib.Core.Bool.{true, false}
use mathlib.Core.List.{List}
use borrow.Author.Tests.{eq-eqb, ne_eqb}
use Rattle.rows.proofs.IndexLaws.{found_if, missing_if}
use Rattle.rows.specs.Words.{any}
use Rattle.rows.specs.Rows.{set_row}
use Rattle.rows.specs.Outcomes.{Leaves}
use Rattle.terms.specs.declared.LockString.{LockString}
use Rattle.terms.specs.Strings.{legal}
use Rattle.locks.specs.Row.{free_row, row_of}
use Rattle.locks.specs.Table.{row_count, free_at, owner_at, held_at, lowest_free, is_held, is_own, lock_status, lock_table, unlocks, unlock_status, unlock_table}

-- what the search for a string finds
module _ (t : List ℕ) (s : LockString) where
  pub found_held : {at : ℕ} → (at ≡ held_at t s) × (at < row_count t) → is_held t s ≡ true
  unfolding held_at is_held
  found_held f = found_if _ _ (rw f.0 at f.1)

  pub missing_held : row_count t ≡ held_at t s → is_held t s ≡ false
  unfolding held_at is_held
  missing_held m = missing_if _ _ (omega (arith, m))

module _ (t : List ℕ) (who : ℕ) (s : LockString) where
  abbrev pub Locks : ℕ → List ℕ → Type 0
  Locks r t' = Leaves (lock_status t who s) (lock_table t who s) r t'

  pub lock_illegal : legal s ≡ false → Locks 0x02 t
  unfolding lock_status lock_table
  lock_illegal l = record { answer = rw l; left = rw l }

  pub lock_own : legal s ≡ true → is_held t s ≡ true → owner_at t (held_at t s) ≡ who → Locks 0x81 t
  unfolding lock_status lock_table is_own
  lock_own l h o = record { answer = rw (l, h, eq-eqb _ _ o); left = rw (l, h, eq-eqb _ _ o) }

  pub lock_other : legal s ≡ true → is_held t s ≡ true → (owner_at t (held_at t s) ≡ who → ⊥) → Locks 0x01 t
  unfolding lock_status lock_table is_own
  lock_other l h o = record { answer = rw (l, h, ne_eqb _ _ o); left = rw (l, h, ne_eqb _ _ o) }

  pub lock_full : legal s ≡ true → is_held t s ≡ false → any (free_at t) (row_count t) ≡ false → Locks 0x82 t
  unfolding lock_status lock_table is_own
  lock_full l h f = record { answer = rw (l, h, f); left = rw (l, h, f) }

  pub lock_granted : legal s ≡ true → is_held t s ≡ false → any (free_at t) (row_count t) ≡ true → Locks 0x00 (set_row 16 t (lowest_free t) (row_of who s))
  unfolding lock_status lock_table is_own
  lock_granted l h f = record { answer = rw (l, h, f); left = rw (l, h, f) }

  abbrev pub Unlocks : ℕ → List ℕ → Type 0
  Unlocks r t' = Leaves (unlock_status t who s) (unlock_table t who s) r t'

  pub unlock_done : legal s ≡ true → is_held t s ≡ true → owner_at t (held_at t s) ≡ who → Unlocks 0x00 (set_row 16 t (held_at t s) free_row)
  unfolding unlock_status unlock_table unlocks is_own
  unlock_done l h o = record { answer = rw (l, h, eq-eqb _ _ o); left = rw (l, h, eq-eqb _ _ o) }

  pub unlock_illegal : legal s ≡ false → Unlocks 0x02 t
  unfolding unlock_status unlock_table unlocks
  unlock_illegal l = record { answer = rw l; left = rw l }

  pub unlock_other : legal s ≡ true → is_held t s ≡ true → (owner_at t (held_at t s) ≡ who → ⊥) → Unlocks 0x02 t
  unfolding unlock_status unlock_table unlocks is_own
  unlock_other l h o = record { answer = rw (l, h, ne_eqb _ _ o); left = rw (l, h, ne_eqb _ _ o) }

  pub unlock_none : legal s ≡ true → is_held t s ≡ false → Unlocks 0x02 t
  unfolding unlock_status unlock_table unlocks is_own
  unlock_none l h = record { answer = rw (l, h); left = rw (l, h) }
