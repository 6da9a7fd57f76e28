-- The station records as one row: the record of a number, who is logged in, and the row in bytes.
use Rattle.std.specs.Prelude.{ℕ, Bool, false, List, [], ◌∷◌, ◌++◌, get_or, replicate}
use Rattle.who.specs.declared.Station.{Station}
use Rattle.who.specs.Records.{bytes_of}

-- zero and no throughout
abbrev pub vacant : Station
vacant = record { logged = false; misses = 0; slow = 0; name = replicate 8 0; serial = replicate 4 0; product = 0; found = false }

-- the record of number n; there is nobody past the end of a row
abbrev pub absent : Station
absent = record { logged = false; misses = 0; slow = 0; name = []; serial = []; product = 0; found = false }

unfoldable pub station_in : List Station → ℕ → Station
station_in xs n = get_or xs n absent

-- number n is logged in
unfoldable pub is_in : List Station → ℕ → Bool
is_in xs n = (station_in xs n).logged

-- a row in bytes, one record after the other
unfoldable pub bytes_of_row : List Station → List ℕ
bytes_of_row [] = []
bytes_of_row (s ∷ xs) = bytes_of s ++ bytes_of_row xs
