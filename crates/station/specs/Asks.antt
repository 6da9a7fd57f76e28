-- What a station asks, and the frame it then sends until a reply comes.
use Rattle.std.specs.Prelude.{ℕ, ◌*◌, Bool, cond, not, ◌&&◌, List, Option, Some, None, Result, [], ◌∷◌, ◌++◌, eqb, ltb, length, replicate}
use Rattle.refusals.specs.declared.Refusal.{Refusal}
use Rattle.refusals.specs.Outcomes.{LeavesUnless}
use Rattle.rows.specs.Outcomes.{Leaves}
use Rattle.rows.specs.Rows.{over}
use Rattle.terms.specs.declared.LockString.{LockString}
use Rattle.terms.specs.Strings.{string_bytes, legal}
use Rattle.frames.specs.declared.Command.{Command}
use Rattle.frames.specs.declared.Command.TheVariants.{Lock, Unlock, Clear}
use Rattle.frames.specs.Table.{LOCK, UNLOCK, CLEAR}
use Rattle.station.specs.State.{list_of, wait_of, is_listed, place_of, struck_at, code_in, nothing}
use Rattle.station.specs.Good.{limit, state_length, good_state}

-- a reply is awaited
unfoldable pub waits : List ℕ → Bool
waits st = not (eqb (code_in (wait_of st)) 0)

-- 11 the state, 14 the station asks while waiting
unfoldable pub ask_refusal : List ℕ → ℕ
ask_refusal st = cond (not (good_state st)) 11 (cond (waits st) 14 0)

-- the string struck from the list; one of illegal length strikes nothing
unfoldable pub struck : List ℕ → LockString → List ℕ
struck l x = cond (legal x && is_listed l x) (struck_at l (place_of l x)) l

-- the 15 bytes to await
unfoldable pub awaited : ℕ → LockString → List ℕ
awaited code x = code ∷ string_bytes x

abbrev pub awaited_clear : List ℕ
awaited_clear = CLEAR ∷ replicate 14 0

-- lock asks and lists nothing; unlock strikes the string when asked; clear empties the list when asked
unfoldable pub after_lock : List ℕ → LockString → List ℕ
after_lock st x = list_of st ++ awaited LOCK x

unfoldable pub after_unlock : List ℕ → LockString → List ℕ
after_unlock st x = struck (list_of st) x ++ awaited UNLOCK x

unfoldable pub after_clear : List ℕ → List ℕ
after_clear st = replicate (length (list_of st)) 0 ++ awaited_clear

-- what a step gives and leaves: 0 and the state after it, or its refusal k and the state as it was
abbrev pub StepLeaves : ℕ → List ℕ → List ℕ → ℕ → List ℕ → Type 0
StepLeaves k after st = Leaves k (cond (eqb k 0) after st)

abbrev pub Asks : List ℕ → List ℕ → ℕ → List ℕ → Type 0
Asks st after = StepLeaves (ask_refusal st) after st

-- fresh, and at each login: an empty list and no reply awaited; 11 for another size
unfoldable pub fresh_state : List ℕ
fresh_state = replicate (14 * limit) 0 ++ nothing

unfoldable pub fresh_refusal : List ℕ → ℕ
fresh_refusal st = cond (eqb (length st) state_length) 0 11

-- the command with this code
unfoldable pub command_for : ℕ → Command
command_for code = cond (eqb code LOCK) Lock (cond (eqb code UNLOCK) Unlock Clear)

-- the command whose frame is awaited
unfoldable pub command_in : List ℕ → Option Command
command_in v =
    cond (eqb (code_in v) LOCK) (Some Lock)
    (cond (eqb (code_in v) UNLOCK) (Some Unlock)
    (cond (eqb (code_in v) CLEAR) (Some Clear)
    None))

-- the frame awaited: its code and its fields
unfoldable pub frame_awaited : List ℕ → List ℕ
frame_awaited v = cond (eqb (code_in v) 0) [] (cond (eqb (code_in v) CLEAR) (CLEAR ∷ []) v)

-- 11 the state, 13 the buffer is too short for the frame
unfoldable pub send_refusal : List ℕ → ℕ → ℕ
send_refusal st n = cond (not (good_state st)) 11 (cond (ltb n (length (frame_awaited (wait_of st)))) 13 0)

-- what a station sends: a refusal and 0, or 0 and the length of the frame, 0 where nothing is awaited
pub record Sent : Type 0 where
  pub refusal : ℕ
  pub length : ℕ

unfoldable pub sent_of : List ℕ → ℕ → Sent
sent_of st n =
    cond (eqb (send_refusal st n) 0)
    (record { refusal = 0; length = length (frame_awaited (wait_of st)) })
    (record { refusal = send_refusal st n; length = 0 })

unfoldable pub buffer_after : List ℕ → List ℕ → List ℕ
buffer_after st b = cond (eqb (send_refusal st (length b)) 0) (over (frame_awaited (wait_of st)) b) b

abbrev pub Sends : List ℕ → List ℕ → Result ℕ Refusal → List ℕ → Type 0
Sends st b = LeavesUnless (sent_of st (length b)).refusal (sent_of st (length b)).length (buffer_after st b)
