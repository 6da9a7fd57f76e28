-- What each of the station's entries returns and leaves. st is its state, b the buffer, n the reply.
use Rattle.std.specs.Prelude.{ℕ, cond, List, eqb, length}
use Rattle.rows.specs.Outcomes.{Leaves}
use Rattle.terms.specs.declared.LockString.{LockString}
use Rattle.master.specs.Answers.{Told, no_bytes, answers_unless}
use Rattle.station.specs.Asks.{fresh_state, ask_refusal, after_lock, after_unlock, after_clear, sent_of, buffer_after, fresh_refusal}
use Rattle.station.specs.Replies.{reply_refusal, after_reply}
use Rattle.hinet.specs.Packing.{word}
use Rattle.hinet.specs.FrameEntries.{frame_told}

-- a step of the station has nothing to tell but its refusal, 0 for none
unfoldable pub step_told : ℕ → Told
step_told k = answers_unless k no_bytes

-- what a step gives and leaves: the word of its refusal, and the state after it or as it was
abbrev pub Steps : ℕ → List ℕ → List ℕ → ℕ → List ℕ → Type 0
Steps k after st = Leaves (word (step_told k)) (cond (eqb k 0) after st)

abbrev pub Freshly : List ℕ → ℕ → List ℕ → Type 0
Freshly st = Steps (fresh_refusal st) fresh_state st

abbrev pub Locks : List ℕ → LockString → ℕ → List ℕ → Type 0
Locks st x = Steps (ask_refusal st) (after_lock st x) st

abbrev pub Unlocks : List ℕ → LockString → ℕ → List ℕ → Type 0
Unlocks st x = Steps (ask_refusal st) (after_unlock st x) st

abbrev pub Clears : List ℕ → ℕ → List ℕ → Type 0
Clears st = Steps (ask_refusal st) (after_clear st) st

-- the reply is any number, and none is cut
abbrev pub Takes : List ℕ → ℕ → ℕ → List ℕ → Type 0
Takes st n = Steps (reply_refusal st n) (after_reply st n) st

-- a frame sent tells its length, 0 where nothing is awaited
abbrev pub Sends : List ℕ → List ℕ → ℕ → List ℕ → Type 0
Sends st b = Leaves (word (frame_told (sent_of st (length b)).refusal (sent_of st (length b)).length)) (buffer_after st b)
