-- The word that an entry returns: bits 0 to 7 the refusal, bits 8 to 15 the kind of answer, bits 16 to 63 its bytes, lowest first. Refusal
-- 10 alone has something above bit 7: the fault's kind, and part, row and breach.
use Rattle.std.specs.Prelude.{ℕ, ◌+◌, ◌*◌, ◌/◌, ◌%◌, ◌^◌, Bool, cond, ◌&&◌, eqb}
use Rattle.who.specs.Records.{flag}
use Rattle.hinet.specs.declared.packing.Kind.{Kind}
use Rattle.hinet.specs.declared.packing.Kind.TheVariants.{Status, Assign, Place, Login, Turn, Written, Fault, Bits, Line, Boot, Request}
use Rattle.master.specs.Answers.{Told, refuses, refuses_site, answers, Answered, no_bytes, status_byte, assign_bytes, place_at, login_as, turn_was, frame_made, request_of, bits_of, line_of, honor_flag}

-- the kinds of answer; an entry with nothing more to tell returns 0
abbrev pub STATUS : ℕ
STATUS = 1

abbrev pub ASSIGN : ℕ
ASSIGN = 2

abbrev pub PLACE : ℕ
PLACE = 3

abbrev pub LOGIN : ℕ
LOGIN = 4

abbrev pub TURN : ℕ
TURN = 5

abbrev pub WRITTEN : ℕ
WRITTEN = 6

abbrev pub FAULT : ℕ
FAULT = 7

abbrev pub BITS : ℕ
BITS = 8

abbrev pub LINE : ℕ
LINE = 9

abbrev pub BOOT : ℕ
BOOT = 10

abbrev pub REQUEST : ℕ
REQUEST = 13

-- the number of each kind that the code tells
abbrev pub kind_number : Kind → ℕ
kind_number Status = STATUS
kind_number Assign = ASSIGN
kind_number Place = PLACE
kind_number Login = LOGIN
kind_number Turn = TURN
kind_number Written = WRITTEN
kind_number Fault = FAULT
kind_number Bits = BITS
kind_number Line = LINE
kind_number Boot = BOOT
kind_number Request = REQUEST

-- a sector, a serial and a count of bits take four bytes, the length of the data of a frame of the line two, every other value one
unfoldable pub word : Told → ℕ
word (refuses k) = k
word (refuses_site part row breach) = 10 + FAULT * 2 ^ 8 + part * 2 ^ 16 + row * 2 ^ 24 + breach * 2 ^ 32
word (answers no_bytes) = 0
word (answers (status_byte status)) = STATUS * 2 ^ 8 + status * 2 ^ 16
word (answers (assign_bytes size partition control volume)) =
    ASSIGN * 2 ^ 8 + size * 2 ^ 16 + partition * 2 ^ 24 + control * 2 ^ 32 + volume * 2 ^ 40
word (answers (place_at volume sector)) = PLACE * 2 ^ 8 + volume * 2 ^ 16 + sector * 2 ^ 24
word (answers (login_as number found serial)) = LOGIN * 2 ^ 8 + number * 2 ^ 16 + flag found * 2 ^ 24 + serial * 2 ^ 32
word (answers (turn_was due out)) = TURN * 2 ^ 8 + flag due * 2 ^ 16 + flag out * 2 ^ 24
word (answers (frame_made length)) = WRITTEN * 2 ^ 8 + length * 2 ^ 16
word (answers (request_of code)) = REQUEST * 2 ^ 8 + code * 2 ^ 16
word (answers (bits_of n)) = BITS * 2 ^ 8 + n * 2 ^ 16
word (answers (line_of user n)) = LINE * 2 ^ 8 + user * 2 ^ 16 + n * 2 ^ 24
word (answers (honor_flag n)) = BOOT * 2 ^ 8 + n * 2 ^ 16

-- how the C program takes a word apart: the refusal, the kind, and n bytes of the answer from byte i on
unfoldable pub refusal_in : ℕ → ℕ
refusal_in x = x % 2 ^ 8

unfoldable pub kind_in : ℕ → ℕ
kind_in x = x / 2 ^ 8 % 2 ^ 8

unfoldable pub bytes_in : ℕ → ℕ → ℕ → ℕ
bytes_in x i n = x / 2 ^ (16 + 8 * i) % 2 ^ (8 * n)

unfoldable pub flag_in : ℕ → ℕ → Bool
flag_in x i = eqb (bytes_in x i 1) 1

-- the answer in a word, by its kind
unfoldable pub answered_in : ℕ → Answered
answered_in x =
    cond (eqb (kind_in x) STATUS) (status_byte (bytes_in x 0 1))
    (cond (eqb (kind_in x) ASSIGN) (assign_bytes (bytes_in x 0 1) (bytes_in x 1 1) (bytes_in x 2 1) (bytes_in x 3 1))
    (cond (eqb (kind_in x) PLACE) (place_at (bytes_in x 0 1) (bytes_in x 1 4))
    (cond (eqb (kind_in x) LOGIN) (login_as (bytes_in x 0 1) (flag_in x 1) (bytes_in x 2 4))
    (cond (eqb (kind_in x) TURN) (turn_was (flag_in x 0) (flag_in x 1))
    (cond (eqb (kind_in x) WRITTEN) (frame_made (bytes_in x 0 1))
    (cond (eqb (kind_in x) REQUEST) (request_of (bytes_in x 0 1))
    (cond (eqb (kind_in x) BITS) (bits_of (bytes_in x 0 4))
    (cond (eqb (kind_in x) LINE) (line_of (bytes_in x 0 1) (bytes_in x 1 2))
    (cond (eqb (kind_in x) BOOT) (honor_flag (bytes_in x 0 1))
    no_bytes)))))))))

-- what a word tells: an answer where nothing is refused; a fault, which is refusal 10 with that kind; or the refusal alone
unfoldable pub told_in : ℕ → Told
told_in x =
    cond (eqb (refusal_in x) 0) (answers (answered_in x))
    (cond (eqb (kind_in x) FAULT && eqb (refusal_in x) 10) (refuses_site (bytes_in x 0 1) (bytes_in x 1 1) (bytes_in x 2 1))
    (refuses (refusal_in x)))
