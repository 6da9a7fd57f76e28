-- A row of the lock table, 16 bytes: owner, length, 13 string bytes, one spare.
use Rattle.std.specs.Prelude.{ℕ, Bool, cond, List, [], ◌∷◌, ◌++◌, eqb, get_or, replicate}
use Rattle.std.proofs.Common.{lit≤}
use Rattle.terms.specs.declared.table.Shape.{Shape}
use Rattle.terms.specs.declared.LockString.{LockString}
use Rattle.terms.specs.Strings.{string_bytes, normal}
use Rattle.terms.specs.Tables

unfoldable pub owner : List ℕ → ℕ
owner r = get_or r 0 0

-- how the rows hold their strings
abbrev pub lock_rows : Shape
lock_rows = record { width = 16; string = 1; free = 0xFF; room = lit≤ tt }

abbrev pub string_of : List ℕ → LockString
string_of = Tables.string_in lock_rows

-- a free row has owner FF and zeros
abbrev pub free_row : List ℕ
free_row = 0xFF ∷ replicate 15 0

abbrev pub is_free : List ℕ → Bool
is_free = Tables.is_free lock_rows

-- the row of an owner that holds s: zeros after the string and in the spare byte
unfoldable pub row_of : ℕ → LockString → List ℕ
row_of who s = who ∷ (string_bytes (normal s) ++ (0 ∷ []))

-- the row, freed where it is `who`'s
unfoldable pub freed : ℕ → List ℕ → List ℕ
freed who r = cond (eqb (owner r) who) free_row r
