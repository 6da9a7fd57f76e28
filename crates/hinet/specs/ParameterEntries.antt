-- What the entries that write a size code's disk parameters return and leave. n is the size code, b the buffer.
use Rattle.std.specs.Prelude.{ℕ, List}
use Rattle.rows.specs.Outcomes.{Leaves}
use Rattle.params.specs.declared.System.{System}
use Rattle.params.specs.Answers.{write_refusal, buffer_after}
use Rattle.hinet.specs.Packing.{word}
use Rattle.hinet.specs.FrameEntries.{frame_told}

-- a block written tells its length, 15; the buffer has it at its start, or is as it was
abbrev pub Parameters : System → ℕ → List ℕ → ℕ → List ℕ → Type 0
Parameters system n b = Leaves (word (frame_told (write_refusal n b) 15)) (buffer_after system n b)
