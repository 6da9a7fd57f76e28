-- The lock table: what lock, unlock and clear answer, and what they leave.
use Rattle.std.specs.Prelude.{ℕ, ◌/◌, Bool, cond, not, ◌&&◌, List, eqb, length}
use Rattle.rows.specs.Words.{any, first}
use Rattle.rows.specs.Rows.{row, set_row, each_row}
use Rattle.terms.specs.declared.LockString.{LockString}
use Rattle.terms.specs.Strings.{legal}
use Rattle.terms.specs.Tables.{row_free, row_holds}
use Rattle.locks.specs.Row.{owner, lock_rows, free_row, row_of, freed}

-- how many whole rows there are
abbrev pub row_count : List ℕ → ℕ
row_count t = length t / 16

-- row i is used and holds s; row i is free
abbrev pub holds_at : List ℕ → LockString → ℕ → Bool
holds_at = row_holds lock_rows

abbrev pub free_at : List ℕ → ℕ → Bool
free_at = row_free lock_rows

unfoldable pub owner_at : List ℕ → ℕ → ℕ
owner_at t i = owner (row 16 t i)

-- the row that holds s, and the lowest free row; the number of rows where there is none
unfoldable pub held_at : List ℕ → LockString → ℕ
held_at t s = first (holds_at t s) (row_count t)

unfoldable pub lowest_free : List ℕ → ℕ
lowest_free t = first (free_at t) (row_count t)

-- somebody holds s; the sender holds s
unfoldable pub is_held : List ℕ → LockString → Bool
is_held t s = any (holds_at t s) (row_count t)

unfoldable pub is_own : List ℕ → ℕ → LockString → Bool
is_own t who s = is_held t s && eqb (owner_at t (held_at t s)) who

-- length not 1 to 13, 02; held by the sender, 81; held by another, 01; no free row, 82; otherwise 00
unfoldable pub lock_status : List ℕ → ℕ → LockString → ℕ
lock_status t who s =
    cond (not (legal s)) 0x02
    (cond (is_own t who s) 0x81
    (cond (is_held t s) 0x01
    (cond (not (any (free_at t) (row_count t))) 0x82
    0x00)))

-- the lowest free row is filled where the answer is 00
unfoldable pub lock_table : List ℕ → ℕ → LockString → List ℕ
lock_table t who s = cond (eqb (lock_status t who s) 0x00) (set_row 16 t (lowest_free t) (row_of who s)) t

-- a string of legal length held by the sender is freed, 00; anything else 02
unfoldable pub unlocks : List ℕ → ℕ → LockString → Bool
unlocks t who s = legal s && is_own t who s

unfoldable pub unlock_status : List ℕ → ℕ → LockString → ℕ
unlock_status t who s = cond (unlocks t who s) 0x00 0x02

unfoldable pub unlock_table : List ℕ → ℕ → LockString → List ℕ
unlock_table t who s = cond (unlocks t who s) (set_row 16 t (held_at t s) free_row) t

-- every row of the sender is freed
unfoldable pub cleared_table : List ℕ → ℕ → List ℕ
cleared_table t who = each_row 16 (freed who) (row_count t) t
