-- What the checks and searches use of a name, what is solid of it and its pattern, and of a lock string, its hash, and its length and
-- bytes apart. No rule names these words.
use Rattle.std.specs.Prelude.{ℕ, ◌-◌, ◌*◌, ◌^◌, Bool, not, ◌&&◌, List, eqb, length, get_or, replicate}
use Rattle.std.specs.Int.Bits.{bit_and, bit_or}
use Rattle.rows.specs.Marks.{hash}
use Rattle.rows.specs.Numbers.{low_first}
use Rattle.rows.specs.Rows.{part}
use Rattle.rows.specs.Words.{same}
use Rattle.terms.specs.declared.names.Pattern.{Pattern}
use Rattle.terms.specs.declared.table.Shape.{Shape}
use Rattle.terms.specs.declared.LockString.{LockString}
use Rattle.terms.specs.Strings.{key}
use Rattle.terms.specs.Names.{trimmed}
use Rattle.terms.specs.Tables.{row_free, row_string}

-- in each of n bytes all bits but the one by which a space differs from a zero
abbrev pub solid_bits : ℕ → ℕ
solid_bits n = low_first (replicate n 223)

-- what is solid of a name: of padding nothing is
unfoldable pub name_solid : List ℕ → ℕ
name_solid name = bit_and (low_first name) (solid_bits (length name))

-- the number in a name's normal form, and the bits of another name that are to be those of that number: all bits of the bytes that
-- are kept, and of every byte those that are solid
unfoldable pub name_word : List ℕ → ℕ
name_word name = low_first (trimmed name)

unfoldable pub name_mask : List ℕ → ℕ
name_mask name = bit_or (2 ^ (8 * length (trimmed name)) - 1) (solid_bits (length name))

unfoldable pub pattern_of : List ℕ → Pattern
pattern_of name = record { word = name_word name; mask = name_mask name }

-- a name has a pattern
unfoldable pub matches : List ℕ → Pattern → Bool
matches name p = eqb (bit_and (low_first name) p.mask) p.word

-- all thirteen bytes count: two that are the same string have one hash where zeros stand after both
unfoldable pub string_hash : LockString → ℕ
string_hash s = hash (low_first (part s.bytes 0 4)) (low_first (part s.bytes 4 4)) (low_first (part s.bytes 8 4)) (get_or s.bytes 12 0)

-- row i is used and holds the string of this length and these bytes
unfoldable pub row_has_key : Shape → List ℕ → ℕ → List ℕ → ℕ → Bool
row_has_key shape t len own i = not (row_free shape t i) && (eqb (row_string shape t i).len len && same (key (row_string shape t i)) own)
