-- Who is logged in, and what a login and a logout do to the records.
use Rattle.std.specs.Prelude.{ℕ, ◌*◌, ◌/◌, Bool, true, not, ◌&&◌, List, ◌++◌, eqb, leb, ltb, length, get_or}
use Rattle.rows.specs.Words.{first, same}
use Rattle.rows.specs.Rows.{row, set_row, copies}
use Rattle.who.specs.declared.Station.{Station}
use Rattle.who.specs.Records.{bytes_of, station_of, nobody, local_user}

-- how many whole records there are
abbrev pub record_count : List ℕ → ℕ
record_count w = length w / 18

-- number n is logged in
unfoldable pub logged_in : List ℕ → ℕ → Bool
logged_in w n = ltb n (record_count w) && eqb (get_or w (18 * n) 0) 1

-- number n, from 1 on, is logged in with this serial
unfoldable pub has_serial : List ℕ → List ℕ → ℕ → Bool
has_serial w serial n = (leb 1 n && logged_in w n) && same (station_of (row 18 w n)).serial serial

-- a number that a login may give
unfoldable pub free_number : List ℕ → ℕ → Bool
free_number w n = leb 1 n && not (logged_in w n)

-- the lowest free number from 1 on, or the number of records where there is none
unfoldable pub lowest_number : List ℕ → ℕ
lowest_number w = first (free_number w) (record_count w)

-- a login: misses and slow turns are 0
unfoldable pub logged_in_as : List ℕ → List ℕ → ℕ → Bool → Station
logged_in_as name serial product found =
    record { logged = true; misses = 0; slow = 0; name = name; serial = serial; product = product; found = found }

unfoldable pub after_login : List ℕ → ℕ → Station → List ℕ
after_login w n s = set_row 18 w n (bytes_of s)

-- a logout: the record is cleared
unfoldable pub after_logout : List ℕ → ℕ → List ℕ
after_logout w n = set_row 18 w n nobody

-- only user 0
unfoldable pub fresh_records : List ℕ
fresh_records = local_user ++ copies 63 nobody
