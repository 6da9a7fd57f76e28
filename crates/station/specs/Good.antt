-- The rules of a station's state. Any breach is refusal 11.
use Rattle.std.specs.Prelude.{ℕ, ◌+◌, ◌-◌, ◌*◌, Bool, cond, not, ◌&&◌, ◌||◌, List, eqb, length}
use Rattle.rows.specs.Words.{all, any, zeros}
use Rattle.rows.specs.Rows.{part, row}
use Rattle.terms.specs.Strings.{legal}
use Rattle.terms.specs.Tables.{is_free, row_alone}
use Rattle.frames.specs.Table.{LOCK, UNLOCK, CLEAR}
use Rattle.station.specs.State.{list_of, wait_of, places, place_string, unused, code_in}

-- zeros in unused places; in used ones lengths 1 to 13 and zeros after the string
unfoldable pub good_place : List ℕ → Bool
good_place r =
    cond (is_free places r) (zeros r)
    (legal (place_string r) && zeros (part r (1 + (place_string r).len) (13 - (place_string r).len)))

unfoldable pub good_at : List ℕ → ℕ → Bool
good_at l i = good_place (row 14 l i)

-- no used place after an unused one
unfoldable pub in_front : List ℕ → ℕ → Bool
in_front l i = unused l i || not (any (unused l) i)

-- no string twice: no earlier place holds this one's
abbrev pub alone_at : List ℕ → ℕ → Bool
alone_at = row_alone places

unfoldable pub good_list : ℕ → List ℕ → Bool
good_list n l = all (good_at l) n && (all (in_front l) n && all (alone_at l) n)

-- the 15 bytes awaited: code 0, 19, 1A or 1B; zeros after code 0 and 1B
unfoldable pub good_wait : List ℕ → Bool
good_wait v =
    (eqb (code_in v) LOCK || eqb (code_in v) UNLOCK)
    || ((eqb (code_in v) 0 || eqb (code_in v) CLEAR) && zeros (part v 1 14))

-- how many locks a station may hold
abbrev pub limit : ℕ
limit = 64

abbrev pub state_length : ℕ
state_length = 14 * limit + 15

unfoldable pub good_state : List ℕ → Bool
good_state st = eqb (length st) state_length && (good_list limit (list_of st) && good_wait (wait_of st))
