-- What ends a station (02, Req 02). A login can log a number out and give it again, all at once; whoever then has the number is another station.
use Rattle.std.specs.Prelude.{ℕ, Bool, false, not, ◌&&◌, ◌||◌, List, eqb}
use Rattle.who.specs.Logins.{logged_in}
use Rattle.master.specs.Answers.{Answered, no_bytes, status_byte, assign_bytes, place_at, login_as, turn_was, frame_made, request_of, bits_of, line_of, honor_flag, Told, refuses, refuses_site, answers}
use Rattle.master.specs.Effects.{Effect}

-- the number that an answer gives to a login; 0 is none
unfoldable pub number_in : Answered → ℕ
number_in no_bytes = 0
number_in (status_byte b) = 0
number_in (assign_bytes size partition control volume) = 0
number_in (place_at volume sector) = 0
number_in (login_as k found serial) = k
number_in (turn_was due out) = 0
number_in (frame_made n) = 0
number_in (request_of code) = 0
number_in (bits_of n) = 0
number_in (line_of user n) = 0
number_in (honor_flag n) = 0

-- k is the number given
unfoldable pub gives : Told → ℕ → Bool
gives (refuses r) k = false
gives (refuses_site part row breach) k = false
gives (answers a) k = eqb (number_in a) k && not (eqb k 0)

-- what is done ends the station under k: k is out after it, or k is the number that it gives
unfoldable pub ends : Effect (List ℕ) → ℕ → Bool
ends e k = not (logged_in e.records k) || gives e.tells k
