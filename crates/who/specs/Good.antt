-- The rules of the 64 station records, as one row of records, one per user number, and as the bytes of such a row.
use Rattle.std.specs.Prelude.{ℕ, suc, ◌*◌, Bool, true, cond, not, ◌&&◌, ◌||◌, List, [], ◌∷◌, eqb, leb, length}
use Rattle.rows.specs.Words.{all, build, zeros}
use Rattle.rows.specs.Rows.{row}
use Rattle.who.specs.declared.Station.{Station}
use Rattle.who.specs.Records.{station_of, flagged}

-- misses are 0 to 255; slow turns are 0 to 11, and 0 while misses are below 160
unfoldable pub good_counts : ℕ → ℕ → Bool
good_counts misses slow = leb misses 255 && (leb slow 11 && (leb 160 misses || eqb slow 0))

-- all but `logged in` is zero or no
unfoldable pub plain : Station → Bool
plain s =
    eqb s.misses 0
    && (eqb s.slow 0
    && (zeros s.name
    && (zeros s.serial
    && (eqb s.product 0
    && not s.found))))

-- record 0 is the local user, always logged in, all else zero or no; a record not logged in is zero and no throughout
unfoldable pub good_station : ℕ → Station → Bool
good_station n s = good_counts s.misses s.slow && cond (eqb n 0) (s.logged && plain s) (s.logged || plain s)

-- one record per user number, 0 to 63
abbrev pub numbers : ℕ
numbers = 64

-- records that are numbered from n on
unfoldable pub good_from : ℕ → List Station → Bool
good_from n [] = true
good_from n (s ∷ xs) = good_station n s && good_from (suc n) xs

unfoldable pub good_row : List Station → Bool
good_row xs = eqb (length xs) numbers && good_from 0 xs

-- bytes in which a row stands: 64 records with flags 0 or 1
unfoldable pub is_row : List ℕ → Bool
is_row w = eqb (length w) (18 * numbers) && all (λ n. flagged (row 18 w n)) numbers

-- the row that stands in them
unfoldable pub stations_of : List ℕ → List Station
stations_of w = build (λ n. station_of (row 18 w n)) numbers

-- bytes in which a row stands that keeps the rules
unfoldable pub good_records : List ℕ → Bool
good_records w = is_row w && good_row (stations_of w)
