-- The rules of the lock table. `inside` says who is logged in.
use Rattle.std.specs.Prelude.{ℕ, ◌+◌, ◌-◌, ◌*◌, Bool, cond, ◌&&◌, List, eqb, length}
use Rattle.rows.specs.Words.{all, zeros}
use Rattle.rows.specs.Rows.{part, row, copies}
use Rattle.terms.specs.Strings.{legal}
use Rattle.terms.specs.Tables.{row_alone}
use Rattle.locks.specs.Row.{owner, string_of, lock_rows, free_row, is_free}

-- a free row has owner FF and zeros; a used row has length 1 to 13, zeros after the string and in the spare byte, and an owner who is logged in
unfoldable pub sound_row : (ℕ → Bool) → List ℕ → Bool
sound_row inside r =
    cond (is_free r) (zeros (part r 1 15))
    (inside (owner r)
    && (legal (string_of r)
    && zeros (part r (2 + (string_of r).len) (14 - (string_of r).len))))

unfoldable pub sound_at : (ℕ → Bool) → List ℕ → ℕ → Bool
sound_at inside t i = sound_row inside (row 16 t i)

-- no two used rows hold the same string: no earlier one holds this one's
abbrev pub alone_at : List ℕ → ℕ → Bool
alone_at = row_alone lock_rows

-- a table of n rows
unfoldable pub sound_rows : ℕ → (ℕ → Bool) → List ℕ → Bool
sound_rows n inside t = eqb (length t) (16 * n) && (all (sound_at inside t) n && all (alone_at t) n)

-- how many locks a master has
abbrev pub locks : ℕ
locks = 64

unfoldable pub good_locks : (ℕ → Bool) → List ℕ → Bool
good_locks inside t = sound_rows locks inside t

unfoldable pub fresh_locks : List ℕ
fresh_locks = copies locks free_row
