-- A station's state: the places of its list, 14 bytes each (length, 13 bytes; length 0 is unused), then the 15 bytes of the frame awaited.
use Rattle.std.specs.Prelude.{ℕ, ◌+◌, ◌-◌, ◌*◌, ◌/◌, Bool, List, ◌++◌, leb, length, get_or, take, drop, replicate}
use Rattle.std.proofs.Common.{lit≤}
use Rattle.rows.specs.Words.{any, first}
use Rattle.rows.specs.Rows.{put}
use Rattle.terms.specs.declared.table.Shape.{Shape}
use Rattle.terms.specs.declared.LockString.{LockString}
use Rattle.terms.specs.Strings.{string_at, string_bytes, normal}
use Rattle.terms.specs.Tables.{string_in, row_free, row_holds}

-- the list: all but the last 15 bytes; and the frame awaited
unfoldable pub list_of : List ℕ → List ℕ
list_of st = take (length st - 15) st

unfoldable pub wait_of : List ℕ → List ℕ
wait_of st = drop (length st - 15) st

-- how many places a list has, and how they hold their strings
abbrev pub place_count : List ℕ → ℕ
place_count l = length l / 14

abbrev pub places : Shape
places = record { width = 14; string = 0; free = 0; room = lit≤ tt }

abbrev pub place_string : List ℕ → LockString
place_string = string_in places

-- place i is unused; place i is used and holds x
abbrev pub unused : List ℕ → ℕ → Bool
unused = row_free places

abbrev pub listed_at : List ℕ → LockString → ℕ → Bool
listed_at = row_holds places

unfoldable pub is_listed : List ℕ → LockString → Bool
is_listed l x = any (listed_at l x) (place_count l)

unfoldable pub place_of : List ℕ → LockString → ℕ
place_of l x = first (listed_at l x) (place_count l)

-- how many strings are listed, and whether no place is left for another
unfoldable pub listed : List ℕ → ℕ
listed l = first (unused l) (place_count l)

unfoldable pub is_full : List ℕ → Bool
is_full l = leb (place_count l) (listed l)

-- a new string goes to the end, with zeros after it
unfoldable pub added : List ℕ → LockString → List ℕ
added l x = put l (14 * listed l) (string_bytes (normal x))

-- striking one keeps the order of the rest
unfoldable pub struck_at : List ℕ → ℕ → List ℕ
struck_at l i = take (14 * i) l ++ (drop (14 * i + 14) l ++ replicate 14 0)

-- the frame awaited: its code, 0 for none, and the string asked for, with all its bytes
unfoldable pub code_in : List ℕ → ℕ
code_in v = get_or v 0 0

unfoldable pub asked_in : List ℕ → LockString
asked_in v = string_at v 1

abbrev pub nothing : List ℕ
nothing = replicate 15 0
