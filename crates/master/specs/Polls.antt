-- One poll turn of the number n: refusals 11, 2, 5, 12 in this order, or the turn.
use Rattle.std.specs.Prelude.{ℕ, Bool, true, false, cond, not, ◌&&◌, ◌||◌, List, Result, eqb}
use Rattle.rows.specs.Rows.{row, set_row}
use Rattle.refusals.specs.declared.Refusal.{Refusal}
use Rattle.who.specs.declared.Station.{Station}
use Rattle.who.specs.Records.{bytes_of, station_of}
use Rattle.who.specs.Row.{vacant}
use Rattle.who.specs.Logins.{logged_in}
use Rattle.who.specs.Turns.{is_due, misses_after, slow_after, is_out}
use Rattle.locks.specs.Table.{cleared_table}
use Rattle.master.specs.declared.Turned.{Turned}
use Rattle.master.specs.Tables.{good_tables}
use Rattle.master.specs.Answers.{Told, answers, turn_was, answers_unless, turn_told}
use Rattle.master.specs.Effects.{Effect, telling, unless, Does}
use Rattle.master.specs.Refusals.{ANYBODY, unknown}

-- 11 the tables; 2 the number; 5 a poll turn at 0 or at 253; 12 heard in a turn that wasn't due. `inside` says who is logged in
unfoldable pub turn_refusal : Bool → (ℕ → Bool) → ℕ → Bool → Bool → ℕ
turn_refusal good inside n heard due =
    cond (not good) 11
    (cond (unknown inside n) 2
    (cond (eqb n 0 || eqb n ANYBODY) 5
    (cond (heard && not due) 12
    0)))

-- is a station due, and does its turn log it out
unfoldable pub due_now : Station → Bool
due_now s = is_due s.misses s.slow

unfoldable pub out_now : Station → Bool → Bool
out_now s heard = is_out s.misses s.slow heard

-- the station with other misses and slow turns
unfoldable pub with_counts : Station → ℕ → ℕ → Station
with_counts s misses slow = record {
  logged = s.logged;
  misses = misses;
  slow = slow;
  name = s.name;
  serial = s.serial;
  product = s.product;
  found = s.found;
}

unfoldable pub after_turn : Station → Bool → Station
after_turn s heard = with_counts s (misses_after s.misses s.slow heard) (slow_after s.misses s.slow)

-- the turn of one station: was it due, and its record after it. A turn that ends in a logout leaves what instant logout leaves: its
-- locks are freed, its record is cleared
unfoldable pub station_turn : ℕ → Station → Bool → List ℕ → Effect Station
station_turn n s heard t =
    cond (out_now s heard)
    (telling (answers (turn_was (due_now s) true)) (cleared_table t n) vacant)
    (telling (answers (turn_was (due_now s) false)) t (after_turn s heard))

-- a turn of one station, in the place of that station among all
abbrev pub placing : {A : Type 0} → (Station → A) → Effect Station → Effect A
placing put e = record { tells = e.tells; locks = e.locks; records = put e.records }

-- over the records in bytes: the station polled, the refusal, and the turn
unfoldable pub station_at : List ℕ → ℕ → Station
station_at w n = station_of (row 18 w n)

unfoldable pub poll_refusal : ℕ → Bool → List ℕ → List ℕ → ℕ
poll_refusal n heard t w = turn_refusal (good_tables t w) (logged_in w) n heard (due_now (station_at w n))

unfoldable pub poll_effect : ℕ → Bool → List ℕ → List ℕ → Effect (List ℕ)
poll_effect n heard t w = unless (poll_refusal n heard t w) t w (placing (λ s. set_row 18 w n (bytes_of s)) (station_turn n (station_at w n) heard t))

-- is the next turn of the number due: a turn that is not heard is refused for 11, 2 and 5 alone, and then what a turn tells of due
unfoldable pub due_told : ℕ → List ℕ → List ℕ → Told
due_told n t w = answers_unless (poll_refusal n false t w) (turn_was (due_now (station_at w n)) false)

-- what a poll turn gives and leaves, whole
abbrev pub Polls : ℕ → Bool → List ℕ → List ℕ → Result Turned Refusal → List ℕ → List ℕ → Type 0
Polls n heard t w r = Does (poll_effect n heard t w) (turn_told r)
