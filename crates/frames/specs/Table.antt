-- The frame table: code and total length of each command's frame.
use Rattle.std.specs.Prelude.{ℕ, Bool, cond, ◌||◌, List, [], ◌∷◌, eqb}

abbrev pub ACKNOWLEDGE : ℕ
ACKNOWLEDGE = 0x41

abbrev pub READ : ℕ
READ = 0x11

abbrev pub WRITE : ℕ
WRITE = 0x12

abbrev pub LOGIN : ℕ
LOGIN = 0x13

abbrev pub ASSIGN : ℕ
ASSIGN = 0x17

abbrev pub LOCK : ℕ
LOCK = 0x19

abbrev pub UNLOCK : ℕ
UNLOCK = 0x1A

abbrev pub CLEAR : ℕ
CLEAR = 0x1B

abbrev pub LOGOUT : ℕ
LOGOUT = 0x1F

unfoldable pub frame_table : List (ℕ × ℕ)
frame_table =
    (ACKNOWLEDGE, 1)
    ∷ (READ, 8)
    ∷ (WRITE, 8)
    ∷ (LOGIN, 20)
    ∷ (ASSIGN, 15)
    ∷ (LOCK, 15)
    ∷ (UNLOCK, 15)
    ∷ (CLEAR, 1)
    ∷ (LOGOUT, 2)
    ∷ []

-- the length beside a code, or 0 where the code is not in the table
unfoldable pub length_in : List (ℕ × ℕ) → ℕ → ℕ
length_in [] code = 0
length_in (r ∷ rest) code = cond (eqb code r.0) r.1 (length_in rest code)

unfoldable pub frame_length : ℕ → ℕ
frame_length code = length_in frame_table code

-- the commands whose fields are dtn, src, dsk, trk, sec, vli
unfoldable pub carries_address : ℕ → Bool
carries_address code = eqb code READ || eqb code WRITE
