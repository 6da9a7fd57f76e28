-- What the master does with what stands on the line (02, Req 04). n is the number polled, b the bytes lent, k the bit count, s the site
-- file, t and w the tables.
use Rattle.std.specs.Prelude.{ℕ, cond, List, Result, Ok, Err, eqb, length}
use Rattle.site.specs.declared.Refused.{Refused}
use Rattle.framing.specs.Reading.{line_refusal, user_in, data_in}
use Rattle.master.specs.Answers.{Told, answers, line_of, told}
use Rattle.master.specs.Effects.{Effect, telling, unless, Does}
use Rattle.master.specs.Frames.{frame_effect}
use Rattle.master.specs.declared.Received.{Received}
use Rattle.master.specs.declared.Received.TheVariants.{Another, Answered as AsFrame}

-- the user number to which stations send
abbrev pub MASTER : ℕ
MASTER = 0

-- a frame with data d to the master is served; one to another user number is told with its length, and changes nothing
unfoldable pub heard_effect : ℕ → ℕ → ℕ → List ℕ → List ℕ → List ℕ → List ℕ → Effect (List ℕ)
heard_effect n user long d s t w = cond (eqb user MASTER) (frame_effect n d s t w) (telling (answers (line_of user long)) t w)

-- the line's refusals first
unfoldable pub line_effect : ℕ → List ℕ → ℕ → List ℕ → List ℕ → List ℕ → Effect (List ℕ)
line_effect n b k s t w = unless (line_refusal b k) t w (heard_effect n (user_in b k) (length (data_in b k)) (data_in b k) s t w)

-- what a frame of the line tells: another's its heading, and the master's own what a frame tells
unfoldable pub received_told : Result Received Refused → Told
received_told (Ok (Another h)) = answers (line_of h.user h.length)
received_told (Ok (AsFrame a)) = told (Ok a)
received_told (Err e) = told (Err e)

-- what serving the line gives and leaves, whole
abbrev pub ServesLine : ℕ → List ℕ → ℕ → List ℕ → List ℕ → List ℕ → Result Received Refused → List ℕ → List ℕ → Type 0
ServesLine n b k s t w r = Does (line_effect n b k s t w) (received_told r)
