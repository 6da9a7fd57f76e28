-- How many poll turns are left to a station that stays silent: what logs it in gives it all of them, each of its silent turns takes one,
-- the last logs it out, and nothing else changes their number.
use Prim.Native.Nat.{ℕ, zero, suc, ◌<◌}
use native.Mathlib.Omega.{arith}
use mathlib.Core.Path.{◌≡◌, refl, sym, ◌∙◌}
use mathlib.Core.Bool.{Bool, true, false, true≢false, cond}
use mathlib.Core.List.{List}
use lib.Dec.{eqb}
use borrow.Author.Tests.{eq-eqb, ne_eqb}
use Rattle.rows.specs.Rows.{row, set_row}
use Rattle.rows.proofs.BoolLaws.{by_test}
use Rattle.who.specs.declared.Station.{Station}
use Rattle.who.specs.Good.{good_counts}
use Rattle.who.specs.Logins.{logged_in, after_logout}
use Rattle.who.specs.Turns.{turns_left}
use Rattle.who.proofs.TurnLaws.{due_with, out_last, silent_left, due_when}
use Rattle.master.specs.Refusals.{ANYBODY, unknown}
use Rattle.master.specs.Answers.{answers, login_as, turn_was}
use Rattle.master.specs.Polls.{station_at, with_counts, after_turn, poll_refusal, turn_refusal, due_now, out_now, station_turn, poll_effect}
use Rattle.master.proofs.TableLaws.{logout_out}
use Rattle.master.proofs.Keeps.{frame_lives}
use Rattle.master.proofs.PollLaws.{polled_below, polled_counts}
use Rattle.master.proofs.PollKeeps.{turned_logged, turned_station}
use Rattle.exchange.specs.Runs.{Event, frame, turn, Run, start, ◌then◌, effect, tables, answer_in, turn_in, ends_in}
use Rattle.exchange.specs.Following.{Follows, logs_in, others, polled, asks_lock, asks_unlock, asks_clear, sends, hears, sides, logout_refused}
use Rattle.exchange.specs.Silence.{last_turn}
use Rattle.exchange.specs.Story.{silent}
use Rattle.exchange.proofs.Invariant.{run_good, invariant, begins}
use Rattle.exchange.proofs.Logins.{own_lives, turn_lives}
use Rattle.master.specs.Effects.{unless}
use Rattle.who.specs.Records.{bytes_of}
use Rattle.who.proofs.RecordLaws.{vacant_bytes}

unfoldable pub left_to : Run → ℕ → ℕ
left_to h k = turns_left (station_at (tables h).records k).misses (station_at (tables h).records k).slow

-- from its login
pub all_left : (k : ℕ) (h : Run) (f s : List ℕ) (found : Bool) (serial : ℕ) → (k ≡ 0 → ⊥) → answer_in h ANYBODY f s ≡ answers (login_as k found serial)
    → (logged_in (tables (h then frame ANYBODY f s)).records k ≡ true) × (left_to (h then frame ANYBODY f s) k ≡ last_turn)
unfolding left_to turns_left tables
all_left k h f s found serial nz e = let n = begins k h f s found serial nz e in (n.is_in_lem, rw n.no_misses)

-- what leaves its record leaves their number
pub beside : (k : ℕ) (h : Run) (e : Event) → row 18 (tables (h then e)).records k ≡ row 18 (tables h).records k → left_to (h then e) k ≡ left_to h k
unfolding left_to station_at
beside k h e kept = rw kept

-- and so does a frame, of its own too, that does not end it
pub framed : (k : ℕ) (h : Run) (n : ℕ) (f site : List ℕ) → ends_in h (frame n f site) k ≡ false → left_to (h then frame n f site) k ≡ left_to h k
framed k h n f site o = beside k h (frame n f site) (unfold ends_in tables effect in (frame_lives n f site _ _ (run_good h) k o).same_record)

-- a station that follows the rules has all its turns where there was none
unfoldable pub turnless : Run → Bool
turnless start = true
turnless (h then frame n f s) = turnless h
turnless (h then turn n heard) = false

pub no_miss : {k at : ℕ} {h : Run} {st : List ℕ} → Follows k h at st → turnless h ≡ true → left_to h k ≡ last_turn
unfolding turnless
no_miss {k} (logs_in h f s found serial nz e) q = (all_left k h f s found serial nz e).1
no_miss {k} (others {h} n f s ne o d) q = framed k h n f s o ∙ no_miss d q
no_miss {k} (polled n heard o d) q = absurd (true≢false (sym q))
no_miss (asks_lock x long r st' a d) q = no_miss d q
no_miss (asks_unlock x long r st' a d) q = no_miss d q
no_miss (asks_clear r st' a d) q = no_miss d q
no_miss {k} (sends {h} b s d) q = framed k h k _ s (own_lives d (sends b s d)) ∙ no_miss d q
no_miss {k} (hears {h} b s status r st' e a d) q = framed k h k _ s (own_lives d (hears b s status r st' e a d)) ∙ no_miss d q
no_miss {k} (sides {h} f s y d) q = framed k h k f s (own_lives d (sides f s y d)) ∙ no_miss d q
no_miss {k} (logout_refused {h} f s e o d) q = framed k h k f s o ∙ no_miss d q

-- its own turn that is not heard
module _ (k : ℕ) (nz : k ≡ 0 → ⊥) where
  module _ (h : Run) (in-now : logged_in (tables h).records k ≡ true) where
    counts : good_counts (station_at (tables h).records k).misses (station_at (tables h).records k).slow ≡ true
    counts = polled_counts k _ _ (run_good h) in-now

    abbrev now : Station
    now = station_at (tables h).records k

    out_is : out_now now false ≡ eqb (left_to h k) 1
    unfolding out_now left_to
    out_is = out_last _ _ counts

    due_is : due_now now ≡ due_with (left_to h k)
    unfolding due_now left_to
    due_is = due_when _ _ counts

    taken : poll_refusal k false (tables h).locks (tables h).records ≡ 0
    unfolding poll_refusal turn_refusal unknown
    taken = rw (run_good h, in-now, ne_eqb k 0 nz, ne_eqb k ANYBODY (λ (e : k ≡ ANYBODY). omega (arith, polled_below k _ _ (run_good h) in-now)))

    pub turn_tells : turn_in h k false ≡ answers (turn_was (due_with (left_to h k)) (eqb (left_to h k) 1))
    unfolding turn_in effect poll_effect unless station_turn
    turn_tells =
        let told : turn_in h k false ≡ answers (turn_was (due_now now) (out_now now false)) = rw (turn_in, taken) (by_test (out_now now false) (λ y. rw y) (λ m. rw m)) in
        told ∙ rw (due_is, out_is)

    turned : (tables (h then turn k false)).records ≡ cond (out_now now false) (after_logout (tables h).records k) (set_row 18 (tables h).records k (bytes_of (after_turn now false)))
    unfolding tables effect poll_effect unless station_turn after_logout
    turned = rw taken (by_test (out_now now false) (λ y. rw (y, vacant_bytes)) (λ m. rw m))

    -- the last one
    pub last : left_to h k ≡ 1 → logged_in (tables (h then turn k false)).records k ≡ false
    last e = rw (turned, out_is, e) (logout_out _ _ (run_good h) k in-now k ∙ rw (eq-eqb k k refl))

    -- one before it: the station is in, with one turn less
    pub next : 1 < left_to h k → (logged_in (tables (h then turn k false)).records k ≡ true) × (suc (left_to (h then turn k false) k) ≡ left_to h k)
    unfolding after_turn with_counts left_to out_now
    next l =
        let on : out_now now false ≡ false = out_is ∙ ne_eqb (left_to h k) 1 (λ e. omega arith) in (
          rw (turned, on) (turned_logged k false _ _ (run_good h) in-now k ∙ in-now),
          rw (turned, on, turned_station k false _ _ (run_good h) in-now on) (omega (arith, silent_left _ _ counts on)),
        )

  -- silent for fewer turns than are left to it, a station goes on following the rules; after the last it is out
  pub silent_follows : (j : ℕ) {at : ℕ} {h : Run} {st : List ℕ} → j < left_to h k → Follows k h at st → Follows k (silent k j h) at st
  unfolding silent
  silent_follows zero l d = d
  silent_follows (suc j) {h = h} l d =
      let n = next h (invariant k d).inside (omega arith) in silent_follows j (omega (arith, n.1)) (polled k false (turn_lives k h k false n.0) d)

  pub silent_out : (j : ℕ) (h : Run) → logged_in (tables h).records k ≡ true → left_to h k ≡ suc j → logged_in (tables (silent k (suc j) h)).records k ≡ false
  unfolding silent
  silent_out zero h i e = last h i e
  silent_out (suc j) h i e = let n = next h i (omega arith) in silent_out j (h then turn k false) n.0 (omega (arith, n.1))
