-- The text of a session line, as bytes: record index, number in hex, refusal, answer.
use Rattle.std.specs.Prelude.{ℕ, zero, suc, ◌+◌, ◌-◌, ◌/◌, ◌%◌, Bool, cond, List, [], ◌∷◌, ◌++◌, ltb, length}
use Rattle.rows.specs.Rows.{put}
use Rattle.rows.specs.Outcomes.{Leaves}
use Rattle.master.specs.Answers.{Told, refuses, refuses_site, answers, refusal_number, no_bytes, status_byte, assign_bytes, place_at, login_as, turn_was, frame_made, request_of, bits_of, line_of, honor_flag}

-- the characters, by their ASCII codes
abbrev pub NEWLINE : ℕ
NEWLINE = 10

abbrev pub SPACE : ℕ
SPACE = 32

abbrev pub DASH : ℕ
DASH = 45

abbrev pub COLON : ℕ
COLON = 58

abbrev pub NO : ℕ
NO = 78

abbrev pub YES : ℕ
YES = 89

-- the digit of a value below 16: 0 to 9, which begin at 48, then A to F, which begin at 65
unfoldable pub digit : ℕ → ℕ
digit d = cond (ltb d 10) (48 + d) (65 + (d - 10))

-- n in decimal with no zero in front, in at most k digits
unfoldable pub decimal_in : ℕ → ℕ → List ℕ
decimal_in zero n = []
decimal_in (suc k) n = cond (ltb n 10) (digit n ∷ []) (decimal_in k (n / 10) ++ (digit (n % 10) ∷ []))

-- twenty digits hold every number of 64 bits
unfoldable pub decimal : ℕ → List ℕ
decimal n = decimal_in 20 n

-- two capital digits a byte
unfoldable pub hex_byte : ℕ → List ℕ
hex_byte b = digit (b / 16) ∷ digit (b % 16) ∷ []

unfoldable pub yes_or_no : Bool → ℕ
yes_or_no found = cond found YES NO

-- status or assign bytes in hex, place as decimal volume:sector, login as number in hex and Y or N, otherwise a dash
unfoldable pub answer_text : Told → List ℕ
answer_text (refuses k) = DASH ∷ []
answer_text (refuses_site part row breach) = DASH ∷ []
answer_text (answers no_bytes) = DASH ∷ []
answer_text (answers (status_byte status)) = hex_byte status
answer_text (answers (place_at volume sector)) = decimal volume ++ (COLON ∷ decimal sector)
answer_text (answers (login_as number found serial)) = hex_byte number ++ (yes_or_no found ∷ [])
answer_text (answers (assign_bytes size partition control volume)) = hex_byte size ++ (hex_byte partition ++ (hex_byte control ++ hex_byte volume))
answer_text (answers (turn_was due out)) = DASH ∷ []
answer_text (answers (frame_made length)) = DASH ∷ []
answer_text (answers (request_of code)) = DASH ∷ []
answer_text (answers (bits_of n)) = DASH ∷ []
answer_text (answers (line_of user n)) = DASH ∷ []
answer_text (answers (honor_flag n)) = DASH ∷ []

-- the columns before the answer, each with a space behind it
unfoldable pub column : List ℕ → List ℕ
column text = text ++ (SPACE ∷ [])

unfoldable pub columns : ℕ → ℕ → ℕ → List ℕ
columns index number refusal = column (decimal index) ++ (column (hex_byte number) ++ column (decimal refusal))

unfoldable pub line_text : ℕ → ℕ → Told → List ℕ
line_text index number t = columns index number (refusal_number t) ++ (answer_text t ++ (NEWLINE ∷ []))

-- the room that is asked for a line, of which it never takes more than 87 bytes
abbrev pub ROOM : ℕ
ROOM = 96

-- the text is put down in l at `at`, and its end is answered
abbrev pub Writes : List ℕ → List ℕ → ℕ → ℕ → List ℕ → Type 0
Writes text l at end l' = Leaves (at + length text) (put l at text) end l'
