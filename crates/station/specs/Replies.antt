-- What a reply does.
use Rattle.std.specs.Prelude.{ℕ, Bool, cond, not, ◌&&◌, ◌||◌, List, ◌++◌, eqb}
use Rattle.terms.specs.Strings.{legal}
use Rattle.frames.specs.Table.{LOCK, UNLOCK, CLEAR}
use Rattle.station.specs.State.{list_of, wait_of, is_listed, is_full, added, code_in, asked_in, nothing}
use Rattle.station.specs.Asks.{StepLeaves}
use Rattle.station.specs.Good.{good_state}

-- the replies listed for a request: lock 00, 81, 01, 02 and 82, unlock 00 and 02, clear 00
unfoldable pub fits : ℕ → ℕ → Bool
fits code b =
    cond (eqb code LOCK) (eqb b 0x00 || (eqb b 0x81 || (eqb b 0x01 || (eqb b 0x02 || eqb b 0x82))))
    (cond (eqb code UNLOCK) (eqb b 0x00 || eqb b 0x02)
    (eqb code CLEAR && eqb b 0x00))

-- 00 or 81: it is done
unfoldable pub grants : ℕ → Bool
grants b = eqb b 0x00 || eqb b 0x81

-- the request carries a length
unfoldable pub carries_length : ℕ → Bool
carries_length code = eqb code LOCK || eqb code UNLOCK

-- a lock reply 00 or 81 adds the string if missing
unfoldable pub adds : List ℕ → List ℕ → ℕ → Bool
adds l v b = eqb (code_in v) LOCK && (grants b && not (is_listed l (asked_in v)))

-- 11 the state; 15 no reply is awaited, the byte is not listed for the request, 00 or 81 for an illegal length, or a 65th list entry, one more than there are places
unfoldable pub reply_refusal : List ℕ → ℕ → ℕ
reply_refusal st b =
    cond (not (good_state st)) 11
    (cond (not (fits (code_in (wait_of st)) b)) 15
    (cond (grants b && (carries_length (code_in (wait_of st)) && not (legal (asked_in (wait_of st))))) 15
    (cond (adds (list_of st) (wait_of st) b && is_full (list_of st)) 15
    0)))

-- each reply ends the wait
unfoldable pub after_reply : List ℕ → ℕ → List ℕ
after_reply st b = cond (adds (list_of st) (wait_of st) b) (added (list_of st) (asked_in (wait_of st))) (list_of st) ++ nothing

-- what a reply gives and leaves
abbrev pub Replies : List ℕ → ℕ → ℕ → List ℕ → Type 0
Replies st b = StepLeaves (reply_refusal st b) (after_reply st b) st
