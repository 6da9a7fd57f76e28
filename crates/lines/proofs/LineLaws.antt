-- No line is longer than the room that is asked for it.
use Prim.Native.Nat.{ℕ, ◌≤◌}
use native.Mathlib.Omega.{arith}
use mathlib.Core.List.{append_assoc}
use lib.ListN.{length, length-append}
use Rattle.master.specs.Answers.{Told, refuses, refuses_site, answers, refusal_number, no_bytes, status_byte, assign_bytes, place_at, login_as, turn_was, frame_made, request_of, bits_of, line_of, honor_flag}
use Rattle.lines.proofs.DigitLaws.{decimal_is, decimal_long}
use Rattle.lines.specs.Line.{decimal, hex_byte, answer_text, column, columns, line_text}

-- what is said of texts one behind another
pub ruleset appending = (append_assoc, length-append)

-- a number's digits, and how many they are at most
pub ruleset decimals = (decimal_is, decimal_long, length-append)

pub answer_long : (t : Told) → length (answer_text t) ≤ 41
unfolding answer_text hex_byte
answer_long (refuses k) = omega arith
answer_long (refuses_site part row breach) = omega arith
answer_long (answers no_bytes) = omega arith
answer_long (answers (status_byte status)) = omega arith
answer_long (answers (place_at volume sector)) = simp length-append (omega (arith, decimal_long volume, decimal_long sector))
answer_long (answers (login_as number found serial)) = omega arith
answer_long (answers (assign_bytes size partition control volume)) = omega arith
answer_long (answers (turn_was due out)) = omega arith
answer_long (answers (frame_made l)) = omega arith
answer_long (answers (request_of code)) = omega arith
answer_long (answers (bits_of n)) = omega arith
answer_long (answers (line_of user n)) = omega arith
answer_long (answers (honor_flag n)) = omega arith

-- a column of decimal digits, and one of a byte
pub number_long : (n : ℕ) → length (column (decimal n)) ≤ 21
unfolding column
number_long n = simp length-append (omega (arith, decimal_long n))

pub polled_long : (b : ℕ) → length (column (hex_byte b)) ≤ 3
unfolding column hex_byte
polled_long b = omega arith

pub columns_long : (index number refusal : ℕ) → length (columns index number refusal) ≤ 45
unfolding columns
columns_long index number refusal = simp length-append (omega (arith, number_long index, polled_long number, number_long refusal))

pub line_long : (index number : ℕ) (t : Told) → length (line_text index number t) ≤ 87
unfolding line_text
line_long index number t = simp length-append (omega (arith, columns_long index number (refusal_number t), answer_long t))

-- the parts of a line, which has room for them
pub ruleset lengths = (append_assoc, length-append, columns_long, answer_long, line_long)
