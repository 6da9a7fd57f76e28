-- Lock strings: when one is legal, when two are the same, and the form with zeros after the string.
use Rattle.std.specs.Prelude.{ℕ, ◌+◌, Bool, ◌&&◌, List, ◌∷◌, eqb, leb, get_or, take, replicate}
use Rattle.rows.specs.Words.{same}
use Rattle.rows.specs.Rows.{part, over}
use Rattle.terms.specs.declared.LockString.{LockString}

-- the string that stands in bytes, its length first
unfoldable pub string_at : List ℕ → ℕ → LockString
string_at l at = record { len = get_or l at 0; bytes = part l (at + 1) 13 }

-- the bytes in which a string stands, its length first
abbrev pub string_bytes : LockString → List ℕ
string_bytes s = s.len ∷ s.bytes

-- length 1 to 13
unfoldable pub legal : LockString → Bool
legal s = leb 1 s.len && leb s.len 13

-- the first length bytes
unfoldable pub key : LockString → List ℕ
key s = take s.len s.bytes

-- length and the first length bytes are equal
unfoldable pub same_string : LockString → LockString → Bool
same_string a b = eqb a.len b.len && same (key a) (key b)

-- zeros after the string
unfoldable pub normal : LockString → LockString
normal s = record { len = s.len; bytes = over (key s) (replicate 13 0) }
