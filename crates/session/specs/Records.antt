-- The record at the front of the input: number polled (1 byte), length (1 byte), frame.
use Rattle.std.specs.Prelude.{ℕ, ◌+◌, Bool, List, leb, length, get_or}
use Rattle.rows.specs.Rows.{part}

unfoldable pub number : List ℕ → ℕ
number input = get_or input 0 0

unfoldable pub frame_size : List ℕ → ℕ
frame_size input = get_or input 1 0

unfoldable pub frame : List ℕ → List ℕ
frame input = part input 2 (frame_size input)

unfoldable pub record_size : List ℕ → ℕ
record_size input = 2 + frame_size input

-- all of its bytes are there. A missing length byte counts as 0, and then fewer than two bytes are there
unfoldable pub whole : List ℕ → Bool
whole input = leb (record_size input) (length input)
