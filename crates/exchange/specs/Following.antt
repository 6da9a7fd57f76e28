-- A station that follows the station rules, from its login until the master logs it out.
--
-- `Follows k h at st` says: in the run h a station logged in under the number k, by the event with index `at`. Since then it has kept the
-- station rules, nobody else has sent a frame under k, no event has ended it, and its state is now st. `at` is its name: each login
-- is a station of its own.
--
-- What ends it (`ends_in`): k is out after the event, or k is the number that the event gives. A login that is served, with its serial,
-- not zero, logs it out and may give k again in the same event: k is then still logged in, and the station under k is another. Its
-- life goes on exactly over the events that do not end it: those that could end it say here that they do not, and the rest never do
-- (`lives` in Promise). Of frames at other numbers, only such a login ends it (`spared`).
--
-- Losses. A request that is lost reaches nobody: no event, and the station's state stays. A reply that is lost is `sends`: the master
-- has served the frame, and the station's state stays. Only `hears` takes a reply, in the exchange of its own frame. A login whose
-- reply is lost has logged in a number that no station knows: nobody follows it, and silence or the next login with its serial logs
-- it out. A logout that is lost is no event: the station has stopped, and its number stays logged in, with what it held, until then.
--
-- A station that logs out, resets or logs in again does nothing more under k. What it leaves behind is its state as it was, until the
-- master logs k out. The relation allows more than the rules do where that costs nothing: an ask while it waits, which is refused,
-- and steps after a logout that the master refused.
use Rattle.std.specs.Prelude.{ℕ, ◌≡◌, Bool, true, false, not, ◌&&◌, ◌||◌, List, eqb, leb, length, take}
use Rattle.terms.specs.declared.LockString.{LockString}
use Rattle.frames.specs.Table.{ACKNOWLEDGE, READ, WRITE, ASSIGN, LOGOUT}
use Rattle.frames.specs.Reading.{code}
use Rattle.master.specs.Answers.{answers, status_byte, login_as}
use Rattle.master.specs.Refusals.{ANYBODY}
use Rattle.station.specs.Asks.{after_lock, after_unlock, after_clear, Asks, fresh_state, sent_of, buffer_after}
use Rattle.station.specs.Replies.{Replies}
use Rattle.exchange.specs.Runs.{frame, turn, Run, start, ◌then◌, size, answer_in, ends_in}

-- while waiting it may also acknowledge, read, write or assign
unfoldable pub side_frame : List ℕ → Bool
side_frame f = (eqb (code f) ACKNOWLEDGE || eqb (code f) READ) || (eqb (code f) WRITE || eqb (code f) ASSIGN)

-- the frame that a station sends: what its entry `send` leaves at the start of a lent buffer b
unfoldable pub sent : List ℕ → List ℕ → List ℕ
sent st b = take (sent_of st (length b)).length (buffer_after st b)

pub data Follows (k : ℕ) : Run → ℕ → List ℕ → Type 0 where
  -- a login at 253 that is answered with the number k, not 0: a fresh state
  logs_in : (h : Run) (f s : List ℕ) (found : Bool) (serial : ℕ) → (k ≡ 0 → ⊥)
      → answer_in h ANYBODY f s ≡ answers (login_as k found serial)
      → Follows k (h then frame ANYBODY f s) (size h) fresh_state
  -- any frame of anybody else, at any other number, with any site file, that does not end the station
  others : {h : Run} {at : ℕ} {st : List ℕ} (n : ℕ) (f s : List ℕ) → (n ≡ k → ⊥) → ends_in h (frame n f s) k ≡ false
      → Follows k h at st → Follows k (h then frame n f s) at st
  -- a poll turn of any number, heard or not, that does not end the station
  polled : {h : Run} {at : ℕ} {st : List ℕ} (n : ℕ) (heard : Bool) → ends_in h (turn n heard) k ≡ false
      → Follows k h at st → Follows k (h then turn n heard) at st
  -- it asks for a lock, for an unlock or for a clear; an ask that is refused leaves its state as it was
  asks_lock : {h : Run} {at : ℕ} {st : List ℕ} (x : LockString) → length x.bytes ≡ 13 → (r : ℕ) (st' : List ℕ) → Asks st (after_lock st x) r st'
      → Follows k h at st → Follows k h at st'
  asks_unlock : {h : Run} {at : ℕ} {st : List ℕ} (x : LockString) → length x.bytes ≡ 13 → (r : ℕ) (st' : List ℕ) → Asks st (after_unlock st x) r st'
      → Follows k h at st → Follows k h at st'
  asks_clear : {h : Run} {at : ℕ} {st : List ℕ} (r : ℕ) (st' : List ℕ) → Asks st (after_clear st) r st'
      → Follows k h at st → Follows k h at st'
  -- it sends the frame awaited, at as many polls as it likes, and the reply is lost
  sends : {h : Run} {at : ℕ} {st : List ℕ} (b s : List ℕ)
      → Follows k h at st → Follows k (h then frame k (sent st b) s) at st
  -- or the reply comes, and the station takes it
  hears : {h : Run} {at : ℕ} {st : List ℕ} (b s : List ℕ) (status r : ℕ) (st' : List ℕ)
      → answer_in h k (sent st b) s ≡ answers (status_byte status) → Replies st status r st'
      → Follows k h at st → Follows k (h then frame k (sent st b) s) at st'
  -- it acknowledges, reads, writes or assigns; what comes back is no reply here
  sides : {h : Run} {at : ℕ} {st : List ℕ} (f s : List ℕ) → side_frame f ≡ true
      → Follows k h at st → Follows k (h then frame k f s) at st
  -- it sends a logout that the master refuses, which does not end it
  logout_refused : {h : Run} {at : ℕ} {st : List ℕ} (f s : List ℕ) → code f ≡ LOGOUT → ends_in h (frame k f s) k ≡ false
      → Follows k h at st → Follows k (h then frame k f s) at st

-- no event after the one with index `at` has ended the station under k
unfoldable pub lives_since : ℕ → ℕ → Run → Bool
lives_since k at start = true
lives_since k at (h then e) = (leb (size h) at || not (ends_in h e k)) && lives_since k at h
