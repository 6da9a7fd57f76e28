-- What the inner functions give and leave. No rule names these words.
use Rattle.std.specs.Prelude.{ℕ, ◌≡◌, Bool, true, false, cond, not, ◌&&◌, List, Result, Ok, Err, eqb, ltb}
use Rattle.rows.specs.Rows.{set_row}
use Rattle.refusals.specs.declared.Refusal.{Refusal}
use Rattle.frames.specs.declared.Command.{Command}
use Rattle.frames.specs.declared.Command.TheVariants.{Acknowledge, Read, Write, Login, Assign, Lock, Unlock, Clear, Logout}
use Rattle.frames.specs.declared.Request.{Request}
use Rattle.site.specs.declared.Refused.{Refused}
use Rattle.who.specs.declared.Station.{Station}
use Rattle.who.specs.Records.{bytes_of}
use Rattle.who.specs.Good.{numbers, stations_of}
use Rattle.who.specs.Row.{station_in}
use Rattle.master.specs.declared.Answer.{Answer}
use Rattle.master.specs.declared.Turned.{Turned}
use Rattle.master.specs.Answers.{told, turn_told}
use Rattle.master.specs.Effects.{Effect, unless, Does}
use Rattle.master.specs.Frames.{logout_effect, old_logouts, login_effect, request_effect}
use Rattle.master.specs.Polls.{turn_refusal, due_now, station_turn}
use Rattle.master.specs.RowPolls.{row_effect}

-- src differs from the number n, in the commands that have one
unfoldable pub sent_elsewhere : ℕ → Command → Bool
sent_elsewhere n Acknowledge = false
sent_elsewhere n (Read src a) = not (eqb src n)
sent_elsewhere n (Write src a) = not (eqb src n)
sent_elsewhere n (Login product) = false
sent_elsewhere n Assign = false
sent_elsewhere n Lock = false
sent_elsewhere n Unlock = false
sent_elsewhere n Clear = false
sent_elsewhere n (Logout src) = not (eqb src n)

-- a request; a login after the logouts, which leaves any lock table as it is; the tables after a logout, and after those of a login
abbrev pub Performs : Request → ℕ → List ℕ → List ℕ → List ℕ → Result Answer Refused → List ℕ → List ℕ → Type 0
Performs q n s t w r = Does (request_effect q n s t w) (told r)

abbrev pub LogsIn : Request → ℕ → List ℕ → List ℕ → Answer → List ℕ → Type 0
LogsIn q product s w r w' = (t : List ℕ) → Does (login_effect q product s t w) (told (Ok r)) t w'

pub record Left (e : Effect (List ℕ)) (t' w' : List ℕ) : Type 0 where
  pub locks : t' ≡ e.locks
  pub records : w' ≡ e.records

abbrev pub LogsOut : ℕ → List ℕ → List ℕ → List ℕ → List ℕ → Type 0
LogsOut n t w = Left (logout_effect n t w)

abbrev pub LogsOldOut : List ℕ → List ℕ → List ℕ → List ℕ → List ℕ → Type 0
LogsOldOut serial t w = Left (old_logouts serial t w)

-- the refusals of a turn without 12, and 12 alone
unfoldable pub seat_refusal : Bool → (ℕ → Bool) → ℕ → ℕ
seat_refusal good inside n = turn_refusal good inside n false true

unfoldable pub early : Station → Bool → ℕ
early s heard = cond (heard && not (due_now s)) 12 0

-- the turn of one record
abbrev pub MakesTurn : ℕ → Station → Bool → List ℕ → Result Turned Refusal → List ℕ → Station → Type 0
MakesTurn n s heard t r t' s' = Does (unless (early s heard) t s (station_turn n s heard t)) (turn_told r) t' s'

-- the record that a turn of the number n reads: its own, or the first where it has none
unfoldable pub read_at : ℕ → ℕ
read_at n = cond (ltb n numbers) n 0

abbrev pub at_read : ℕ → Effect (List Station) → Effect Station
at_read n e = record { tells = e.tells; locks = e.locks; records = station_in e.records (read_at n) }

-- the turn over the row that stands in the bytes w; of the row that it leaves, the record s that was read
abbrev pub Lends : ℕ → Bool → List ℕ → List ℕ → Result Turned Refusal → List ℕ → Station → Type 0
Lends n heard w t r t' s = Does (at_read n (row_effect n heard (stations_of w) t)) (turn_told r) t' s

-- a turn is written back into the bytes that the row was read from, and a refusal is not
unfoldable pub written_back : ℕ → Result Turned Refusal → Station → List ℕ → List ℕ
written_back n (Ok turned) s w = set_row 18 w n (bytes_of s)
written_back n (Err refusal) s w = w
