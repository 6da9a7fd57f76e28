-- Lock strings in the rows of a table. The rows are of one width; a row is free where its first byte says so, and the string
-- stands at one place in its row.
use Rattle.std.specs.Prelude.{ℕ, Bool, not, ◌&&◌, ◌||◌, List, eqb, get_or}
use Rattle.rows.specs.Words.{any}
use Rattle.rows.specs.Rows.{row}
use Rattle.terms.specs.declared.table.Shape.{Shape}
use Rattle.terms.specs.declared.LockString.{LockString}
use Rattle.terms.specs.Strings.{string_at, same_string}

-- a row: it is free; its string; it is used and holds s
unfoldable pub is_free : Shape → List ℕ → Bool
is_free shape r = eqb (get_or r 0 0) shape.free

unfoldable pub string_in : Shape → List ℕ → LockString
string_in shape r = string_at r shape.string

unfoldable pub holds : Shape → LockString → List ℕ → Bool
holds shape s r = not (is_free shape r) && same_string (string_in shape r) s

-- row i of a table, and the same of it
unfoldable pub row_in : Shape → List ℕ → ℕ → List ℕ
row_in shape t i = row shape.width t i

unfoldable pub row_free : Shape → List ℕ → ℕ → Bool
row_free shape t i = is_free shape (row_in shape t i)

unfoldable pub row_string : Shape → List ℕ → ℕ → LockString
row_string shape t i = string_in shape (row_in shape t i)

unfoldable pub row_holds : Shape → List ℕ → LockString → ℕ → Bool
row_holds shape t s i = holds shape s (row_in shape t i)

-- row i is free, or no earlier row holds its string
unfoldable pub row_alone : Shape → List ℕ → ℕ → Bool
row_alone shape t i = row_free shape t i || not (any (row_holds shape t (row_string shape t i)) i)
