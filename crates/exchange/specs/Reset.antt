-- A second run, for logins with a serial: twice a clerk with a lock presses reset and logs in again. The first time she is given her old
-- number, and somebody else gets the lock; the second time she is given a lower number, and gets the lock again under that.
use Rattle.std.specs.Prelude.{ℕ, ◌≡◌, true, false, List, [], ◌∷◌, ◌++◌, replicate}
use Rattle.who.specs.Logins.{logged_in}
use Rattle.master.specs.Answers.{Told, refuses, answers, no_bytes, status_byte, login_as}
use Rattle.master.specs.Refusals.{ANYBODY}
use Rattle.station.specs.Asks.{fresh_state}
use Rattle.exchange.specs.Runs.{frame, Run, start, ◌then◌, tables}
use Rattle.exchange.specs.Following.{Follows}
use Rattle.exchange.specs.Promise.{holds, lists}
use Rattle.exchange.specs.Story.{A, B, site, login, logout, replied, locks_B, one_locks, from, answers_in}

-- the clerk's login: the serial 01 02 03 04
unfoldable pub clerk : List ℕ
clerk = 0x13 ∷ (replicate 14 0 ++ (1 ∷ 2 ∷ 3 ∷ 4 ∷ 0 ∷ []))

-- a station that has asked for A and heard 00; one that asks for B, and has heard 00
unfoldable pub has_A : List ℕ
has_A = replied one_locks 0x00

unfoldable pub asks_B : List ℕ
asks_B = locks_B fresh_state

unfoldable pub has_B : List ℕ
has_B = replied asks_B 0x00

-- 1 logs in with serial zero, and the clerk, who is given 2 and locks A
unfoldable pub one_alone : Run
one_alone = start then frame ANYBODY login site

unfoldable pub clerk_has_it : Run
clerk_has_it = one_alone then frame ANYBODY clerk site then from 2 one_locks

-- she resets and logs in again; 1 locks A, and she locks B
unfoldable pub clerk_again : Run
clerk_again = clerk_has_it then frame ANYBODY clerk site

unfoldable pub one_takes_it : Run
one_takes_it = clerk_again then from 1 one_locks

unfoldable pub clerk_has_B : Run
clerk_has_B = one_takes_it then from 2 asks_B

-- 1 logs out; she resets once more and locks B again; a frame from before that comes late, under 2
unfoldable pub clerk_moves : Run
clerk_moves = clerk_has_B then frame 1 logout site then frame ANYBODY clerk site

unfoldable pub clerk_has_B_again : Run
clerk_has_B_again = clerk_moves then from 1 asks_B

unfoldable pub too_late : Run
too_late = clerk_has_B_again then from 2 asks_B

unfoldable pub said_again : List Told
said_again =
    answers (login_as 1 false 0)
    ∷ answers (login_as 2 false 0x04030201)
    ∷ answers (status_byte 0x00)
    ∷ answers (login_as 2 false 0x04030201)  -- her old number
    ∷ answers (status_byte 0x00)  -- A was free
    ∷ answers (status_byte 0x00)
    ∷ answers no_bytes
    ∷ answers (login_as 1 false 0x04030201)  -- a lower one
    ∷ answers (status_byte 0x00)  -- B was free
    ∷ refuses 2  -- 2 is out
    ∷ []

pub record Restarts : Type 0 where
  pub told : answers_in too_late ≡ said_again
  pub clerk_locked : Follows 2 clerk_has_it 1 has_A
  pub clerk_lists : lists has_A A ≡ true
  -- after the first reset 2 is logged in, but not as the station that logged in by event 1: that one is over, and A is not held under 2
  pub still_in : logged_in (tables clerk_again).records 2 ≡ true
  pub old_over : (st : List ℕ) → Follows 2 clerk_again 1 st → ⊥
  pub new_begins : Follows 2 clerk_again 3 fresh_state
  pub lock_free : holds clerk_again 2 A ≡ false
  pub one_locked : Follows 1 one_takes_it 0 has_A
  -- after the second reset she is 1
  pub clerk_locked_B : Follows 2 clerk_has_B 3 has_B
  pub clerk_lists_B : lists has_B B ≡ true
  pub moved : Follows 1 clerk_has_B_again 7 has_B
