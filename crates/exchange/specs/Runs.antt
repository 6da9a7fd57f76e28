-- A run of the master from fresh tables: what reached it, one event after the other. Who sent it, and whether an answer came back, is
-- no part of a run: a request that is lost is no event, and a reply that is lost changes nothing at the master.
use Rattle.std.specs.Prelude.{ℕ, zero, suc, ◌≡◌, Bool, true, List, Result}
use Rattle.refusals.specs.declared.Refusal.{Refusal}
use Rattle.site.specs.declared.Refused.{Refused}
use Rattle.who.specs.Logins.{fresh_records}
use Rattle.locks.specs.Good.{fresh_locks}
use Rattle.master.specs.declared.Answer.{Answer}
use Rattle.master.specs.declared.Turned.{Turned}
use Rattle.master.specs.Answers.{Told}
use Rattle.master.specs.Fresh.{sized, Freshens}
use Rattle.master.specs.Frames.{Serves, frame_effect}
use Rattle.master.specs.Polls.{Polls, poll_effect}
use Rattle.master.specs.Effects.{Effect}
use Rattle.master.specs.Ends.{ends}

-- any bytes as a frame at any number, with any bytes as the site file of that call; a poll turn of any number, heard or not
pub data Event : Type 0 where
  frame : ℕ → List ℕ → List ℕ → Event
  turn : ℕ → Bool → Event

pub data Run : Type 0 where
  start : Run
  ◌then◌ : Run → Event → Run

infixl 40 ◌then◌
-- how many events, and so the index of the next
unfoldable pub size : Run → ℕ
size start = zero
size (h then e) = suc (size h)

pub record Tables : Type 0 where
  pub locks : List ℕ
  pub records : List ℕ

-- what an event does: the effects of the contracts of `serve` and `poll_turn`
unfoldable pub effect : Event → Tables → Effect (List ℕ)
effect (frame n f s) m = frame_effect n f s m.locks m.records
effect (turn n heard) m = poll_effect n heard m.locks m.records

-- the tables after a run
unfoldable pub tables : Run → Tables
tables start = record { locks = fresh_locks; records = fresh_records }
tables (h then e) = record { locks = (effect e (tables h)).locks; records = (effect e (tables h)).records }

-- what a frame and a poll turn are answered after a run
unfoldable pub answer_in : Run → ℕ → List ℕ → List ℕ → Told
answer_in h n f s = (effect (frame n f s) (tables h)).tells

unfoldable pub turn_in : Run → ℕ → Bool → Told
turn_in h n heard = (effect (turn n heard) (tables h)).tells

-- an event after a run ends the station under k: k is out after it, or k is the number that it gives
unfoldable pub ends_in : Run → Event → ℕ → Bool
ends_in h e k = ends (effect e (tables h)) k

-- the run as the entries play it: `fresh`, and then `serve` or `poll_turn` for each event, each on the tables that the one before left
pub data Played : Run → List ℕ → List ℕ → Type 0 where
  fresh : (t w t' w' : List ℕ) (r : Result (Unit {0}) Refusal) → sized t w ≡ true → Freshens t w r t' w' → Played start t' w'
  serve : {h : Run} {t w : List ℕ} (n : ℕ) (f s t' w' : List ℕ) (r : Result Answer Refused) → Serves n f s t w r t' w'
      → Played h t w → Played (h then frame n f s) t' w'
  poll_turn : {h : Run} {t w : List ℕ} (n : ℕ) (heard : Bool) (t' w' : List ℕ) (r : Result Turned Refusal) → Polls n heard t w r t' w'
      → Played h t w → Played (h then turn n heard) t' w'
