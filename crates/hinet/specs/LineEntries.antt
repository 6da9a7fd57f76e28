-- What the entries of the line return and leave (02, Req 04). s are the bytes with the bits, n the bit count, b the buffer.
use Rattle.std.specs.Prelude.{ℕ, List, length}
use Rattle.rows.specs.Outcomes.{Leaves}
use Rattle.framing.specs.Frame.{frame_bits}
use Rattle.framing.specs.Writing.{write_refusal, bits_after}
use Rattle.framing.specs.Reading.{user_in, data_in, read_refusal, put_unless}
use Rattle.master.specs.Answers.{bits_of, line_of, answers_unless}
use Rattle.master.specs.Line.{line_effect}
use Rattle.hinet.specs.Packing.{word}
use Rattle.hinet.specs.Entries.{Tells}

-- a frame written tells how many bits it has
abbrev pub LineWrites : ℕ → List ℕ → List ℕ → ℕ → List ℕ → Type 0
LineWrites user d b = Leaves (word (answers_unless (write_refusal user d b) (bits_of (length (frame_bits user d))))) (bits_after user d b)

-- a frame read tells its user number and the length of its data, and the data stand in the buffer
abbrev pub LineReads : List ℕ → ℕ → List ℕ → ℕ → List ℕ → Type 0
LineReads s n b = Leaves (word (answers_unless (read_refusal s n b) (line_of (user_in s n) (length (data_in s n))))) (put_unless (read_refusal s n b) (data_in s n) b)

-- a frame from the line at the number p: x is the site file, t the lock table, w the station records
abbrev pub LineServed : ℕ → List ℕ → ℕ → List ℕ → List ℕ → List ℕ → ℕ → List ℕ → List ℕ → Type 0
LineServed p s n x t w = Tells (line_effect p s n x t w)
