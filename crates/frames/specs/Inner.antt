-- The contract of the test of a frame, inside of reading.
use Rattle.std.specs.Prelude.{ℕ, ◌≡◌, List, length, Result, Ok, Err}
use Rattle.refusals.specs.declared.Refusal.{Refusal}
use Rattle.refusals.specs.Refusals.{number}
use Rattle.frames.specs.declared.code.Code.{Code}
use Rattle.frames.specs.Codes.{byte_of}
use Rattle.frames.specs.Table.{frame_length}
use Rattle.frames.specs.Reading.{code, refusal_of}

-- the code of a frame that is not refused, or its refusal
abbrev pub Tests : List ℕ → Result Code Refusal → Type 0
Tests f (Ok c) = (refusal_of f ≡ 0) × (length f ≡ frame_length (byte_of c)) × (code f ≡ byte_of c)
Tests f (Err r) = refusal_of f ≡ number r
