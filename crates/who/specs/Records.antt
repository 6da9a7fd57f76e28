-- The station record, as a struct and as 18 bytes: logged in, misses (2, low byte first), slow turns, name 8, serial 4, product, name found.
use Rattle.std.specs.Prelude.{ℕ, Bool, cond, ◌&&◌, List, [], ◌∷◌, ◌++◌, eqb, leb, get_or, replicate}
use Rattle.rows.specs.Rows.{part}
use Rattle.rows.specs.Numbers.{low_first, low_bytes}
use Rattle.who.specs.declared.Station.{Station}

-- a flag is 0 or 1
unfoldable pub flag : Bool → ℕ
flag b = cond b 1 0

unfoldable pub bytes_of : Station → List ℕ
bytes_of s =
    flag s.logged
    ∷ (low_bytes 2 s.misses ++ (s.slow ∷ (s.name ++ (s.serial ++ (s.product ∷ flag s.found ∷ [])))))

unfoldable pub station_of : List ℕ → Station
station_of r = record {
  logged = eqb (get_or r 0 0) 1;
  misses = low_first (part r 1 2);
  slow = get_or r 3 0;
  name = part r 4 8;
  serial = part r 12 4;
  product = get_or r 16 0;
  found = eqb (get_or r 17 0) 1;
}

-- flags are 0 or 1
unfoldable pub flagged : List ℕ → Bool
flagged r = leb (get_or r 0 0) 1 && leb (get_or r 17 0) 1

-- zero and no throughout
abbrev pub nobody : List ℕ
nobody = replicate 18 0

-- the local user: logged in, all else zero or no
abbrev pub local_user : List ℕ
local_user = 1 ∷ replicate 17 0
