-- A run to show that the promise is about something: two stations and one that breaks the rules, a contested lock, two lost replies, a
-- clear, a logout, and a silence.
use Rattle.std.specs.Prelude.{ℕ, zero, suc, ◌≡◌, true, false, cond, List, [], ◌∷◌, ◌++◌, eqb, replicate}
use Rattle.terms.specs.declared.LockString.{LockString}
use Rattle.who.specs.Logins.{logged_in}
use Rattle.master.specs.Answers.{Told, answers, no_bytes, status_byte, login_as}
use Rattle.master.specs.Refusals.{ANYBODY}
use Rattle.frames.specs.Table.{UNLOCK}
use Rattle.station.specs.Asks.{ask_refusal, awaited, after_lock, after_unlock, after_clear, fresh_state}
use Rattle.station.specs.Replies.{reply_refusal, after_reply}
use Rattle.exchange.specs.Runs.{Event, frame, turn, Run, start, ◌then◌, tables, answer_in, turn_in}
use Rattle.exchange.specs.Following.{sent, Follows}
use Rattle.exchange.specs.Promise.{holds, lists}

-- the strings "A" and "B", the empty site file, a login by nobody in particular, the logout of 1, a buffer for a frame
unfoldable pub A : LockString
A = record { len = 1; bytes = 65 ∷ replicate 12 0 }

unfoldable pub B : LockString
B = record { len = 1; bytes = 66 ∷ replicate 12 0 }

unfoldable pub site : List ℕ
site = 0 ∷ 0 ∷ 8 ∷ 0 ∷ 0 ∷ 0 ∷ 8 ∷ 0 ∷ []

unfoldable pub login : List ℕ
login = 0x13 ∷ replicate 19 0

unfoldable pub logout : List ℕ
logout = 0x1F ∷ 1 ∷ []

unfoldable pub buffer : List ℕ
buffer = replicate 15 0

-- the state that an ask and a reply leave, as their contracts say
unfoldable pub asked : List ℕ → List ℕ → List ℕ
asked st next = cond (eqb (ask_refusal st) 0) next st

unfoldable pub replied : List ℕ → ℕ → List ℕ
replied st b = cond (eqb (reply_refusal st b) 0) (after_reply st b) st

unfoldable pub locks_A : List ℕ → List ℕ
locks_A st = asked st (after_lock st A)

unfoldable pub locks_B : List ℕ → List ℕ
locks_B st = asked st (after_lock st B)

unfoldable pub unlocks_A : List ℕ → List ℕ
unlocks_A st = asked st (after_unlock st A)

-- station 1: asks for A, and after the second frame hears 81; asks to unlock A, and after the second frame hears 02; asks for B, hears
-- 00; asks for a clear, hears 00
unfoldable pub one_locks : List ℕ
one_locks = locks_A fresh_state

unfoldable pub one_holds : List ℕ
one_holds = replied one_locks 0x81

unfoldable pub one_unlocks : List ℕ
one_unlocks = unlocks_A one_holds

unfoldable pub one_free : List ℕ
one_free = replied one_unlocks 0x02

unfoldable pub one_locks_B : List ℕ
one_locks_B = locks_B one_free

unfoldable pub one_holds_B : List ℕ
one_holds_B = replied one_locks_B 0x00

unfoldable pub one_clears : List ℕ
one_clears = asked one_holds_B (after_clear one_holds_B)

unfoldable pub one_empty : List ℕ
one_empty = replied one_clears 0x00

-- station 2: asks for A, hears 01; asks again later, hears 00
unfoldable pub two_locks : List ℕ
two_locks = locks_A fresh_state

unfoldable pub two_denied : List ℕ
two_denied = replied two_locks 0x01

unfoldable pub two_again : List ℕ
two_again = locks_A two_denied

unfoldable pub two_holds : List ℕ
two_holds = replied two_again 0x00

-- station k sends what it waits for
unfoldable pub from : ℕ → List ℕ → Event
from k st = frame k (sent st buffer) site

-- station 3 breaks the rules: it has asked for nothing, and sends an unlock of A
unfoldable pub unlock : List ℕ
unlock = awaited UNLOCK A

-- the run: up to where 1 holds A, up to where 2 holds it, and up to where 1 holds nothing and logs out
unfoldable pub logins : Run
logins = start then frame ANYBODY login site then frame ANYBODY login site then frame ANYBODY login site

unfoldable pub one_has_it : Run
one_has_it = logins then from 1 one_locks then from 2 two_locks then frame 3 unlock site then from 1 one_locks

unfoldable pub two_has_it : Run
two_has_it = one_has_it then from 1 one_unlocks then from 1 one_unlocks then from 2 two_again

unfoldable pub one_has_none : Run
one_has_none = two_has_it then from 1 one_locks_B then from 1 one_clears

unfoldable pub one_leaves : Run
one_leaves = one_has_none then frame 1 logout site

-- what each event was answered, the lost replies too
unfoldable pub answers_in : Run → List Told
answers_in start = []
answers_in (h then frame n f s) = answers_in h ++ (answer_in h n f s ∷ [])
answers_in (h then turn n heard) = answers_in h ++ (turn_in h n heard ∷ [])

unfoldable pub said : List Told
said =
    answers (login_as 1 false 0)
    ∷ answers (login_as 2 false 0)
    ∷ answers (login_as 3 false 0)
    ∷ answers (status_byte 0x00)  -- lost
    ∷ answers (status_byte 0x01)
    ∷ answers (status_byte 0x02)  -- to 3
    ∷ answers (status_byte 0x81)
    ∷ answers (status_byte 0x00)  -- lost
    ∷ answers (status_byte 0x02)
    ∷ answers (status_byte 0x00)
    ∷ answers (status_byte 0x00)
    ∷ answers (status_byte 0x00)
    ∷ answers no_bytes
    ∷ []

-- and then k is polled j times and never heard
unfoldable pub silent : ℕ → ℕ → Run → Run
silent k zero h = h
silent k (suc j) h = silent k j (h then turn k false)

-- it happens: 1 and 2 follow the rules all the while
pub record Happens : Type 0 where
  pub told : answers_in one_leaves ≡ said
  -- the reply to the lock of 1 was lost; 2 asked for the same string and heard 01; 3 tried to unlock it; 1 sent again and heard 81
  pub one_locked : Follows 1 one_has_it 0 one_holds
  pub one_lists : lists one_holds A ≡ true
  pub two_asked : Follows 2 one_has_it 1 two_denied
  pub two_lists_not : lists two_denied A ≡ false
  -- the reply to the unlock of 1 was lost; 1 sent again and heard 02; then 2 asked again and heard 00
  pub one_unlocked : Follows 1 two_has_it 0 one_free
  pub one_lists_not : lists one_free A ≡ false
  pub two_locked : Follows 2 two_has_it 1 two_holds
  pub two_lists : lists two_holds A ≡ true
  -- 1 locked B, asked for a clear and heard 00; then it logged out
  pub one_locked_B : lists one_holds_B B ≡ true
  pub one_cleared : Follows 1 one_has_none 0 one_empty
  pub one_lists_none : lists one_empty B ≡ false
  pub one_out : logged_in (tables one_leaves).records 1 ≡ false
  -- 2 falls silent: it is in for 1,311 turns, and out after the next; its lock is gone with it
  pub two_silent : Follows 2 (silent 2 1311 one_leaves) 1 two_holds
  pub two_out : logged_in (tables (silent 2 1312 one_leaves)).records 2 ≡ false
  pub two_holds_not : holds (silent 2 1312 one_leaves) 2 A ≡ false
