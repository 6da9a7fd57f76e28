-- Reading a frame: where its bits stop, the refusals in their order, and what is given. s are the bytes lent, n the bit count.
use Rattle.std.specs.Prelude.{ℕ, ◌+◌, ◌-◌, ◌*◌, ◌/◌, ◌%◌, Bool, true, false, cond, not, ◌&&◌, List, [], ◌∷◌, ◌++◌, Result, eqb, leb, ltb, length, take, drop, get_or}
use Rattle.refusals.specs.declared.Refusal.{Refusal}
use Rattle.refusals.specs.Outcomes.{LeavesUnless}
use Rattle.rows.specs.Rows.{over, part}
use Rattle.rows.specs.Numbers.{low_first}
use Rattle.framing.specs.Bits.{to_bits, pack}
use Rattle.framing.specs.Zeros.{without_zeros}
use Rattle.framing.specs.Check.{check}
use Rattle.framing.specs.Frame.{flag}
use Rattle.framing.specs.declared.Heading.{Heading}

-- bits start with other bits
unfoldable pub starts : List Bool → List Bool → Bool
starts [] bs = true
starts (f ∷ fs) [] = false
starts (f ∷ fs) (b ∷ bs) = cond f b (not b) && starts fs bs

-- where the bits after the opening flag stop: at the end, at seven ones, or at a flag, with the bits between
pub data Scan : Type 0 where
  ended sevenOnes : Scan
  stopped : List Bool → Scan

-- `since` are the bits since the last flag, and `ones` of them stand last. Six ones and a zero are a flag: its first zero and six
-- ones stand last in `since`. Where nothing stands before them the flag follows at once and is skipped; without its first zero
-- it shares the zero of the flag before it
unfoldable pub scan : ℕ → List Bool → List Bool → Scan
scan ones since [] = ended
scan ones since (true ∷ bs) = cond (eqb ones 6) sevenOnes (scan (ones + 1) (since ++ (true ∷ [])) bs)
scan ones since (false ∷ bs) =
    cond (eqb ones 6)
    (cond (leb (length since) 7) (scan 0 [] bs) (stopped (take (length since - 7) since)))
    (scan 0 (since ++ (false ∷ [])) bs)

-- a bit count within the bytes, and a flag at the first bit
unfoldable pub opens : List ℕ → ℕ → Bool
opens s n = leb n (8 * length s) && starts flag (take n (to_bits s))

unfoldable pub scanned : List ℕ → ℕ → Scan
scanned s n = cond (opens s n) (scan 0 [] (drop 8 (take n (to_bits s)))) ended

-- the content of four bytes or more: user number, data, and the check, low byte first
unfoldable pub data_of : List ℕ → List ℕ
data_of c = part c 1 (length c - 3)

unfoldable pub checks : List ℕ → Bool
checks c = eqb (low_first (drop (length c - 2) c)) (check (take (length c - 2) c))

-- 20 bits not whole bytes, 21 under four bytes, 17 over 1024 data bytes, 22 check
unfoldable pub content_refusal : List Bool → ℕ
content_refusal bs =
    cond (not (eqb (length bs % 8) 0)) 20
    (cond (ltb (length bs / 8) 4) 21
    (cond (ltb 1027 (length bs / 8)) 17
    (cond (not (checks (pack bs))) 22
    0)))

-- 18 no flag at the start or the input ended, 19 stopped by seven ones, then as above
unfoldable pub scan_refusal : Scan → ℕ
scan_refusal ended = 18
scan_refusal sevenOnes = 19
scan_refusal (stopped bs) = content_refusal (without_zeros 0 bs)

unfoldable pub line_refusal : List ℕ → ℕ → ℕ
line_refusal s n = scan_refusal (scanned s n)

-- the content, the user number and the data of a frame that is not refused
unfoldable pub scan_content : Scan → List ℕ
scan_content ended = []
scan_content sevenOnes = []
scan_content (stopped bs) = pack (without_zeros 0 bs)

unfoldable pub content_in : List ℕ → ℕ → List ℕ
content_in s n = scan_content (scanned s n)

unfoldable pub user_in : List ℕ → ℕ → ℕ
user_in s n = get_or (content_in s n) 0 0

unfoldable pub data_in : List ℕ → ℕ → List ℕ
data_in s n = data_of (content_in s n)

-- what is told of a frame that is not refused: user number and length of the data
unfoldable pub heading_in : List ℕ → ℕ → Heading
heading_in s n = record { user = user_in s n; length = length (data_in s n) }

-- refused with k, and the buffer as it was; or, with 0 for none, bytes p at the start of the buffer b, and those after them as they were
unfoldable pub put_unless : ℕ → List ℕ → List ℕ → List ℕ
put_unless k p b = cond (eqb k 0) (over p b) b

-- reading: last of all, 13 the data do not fit
unfoldable pub read_refusal : List ℕ → ℕ → List ℕ → ℕ
read_refusal s n b = cond (eqb (line_refusal s n) 0) (cond (ltb (length b) (length (data_in s n))) 13 0) (line_refusal s n)

abbrev pub Reads : List ℕ → ℕ → List ℕ → Result Heading Refusal → List ℕ → Type 0
Reads s n b = LeavesUnless (read_refusal s n b) (heading_in s n) (put_unless (read_refusal s n b) (data_in s n) b)

-- reading the start of the data, as much as the buffer holds
abbrev pub ReadsStart : List ℕ → ℕ → List ℕ → Result Heading Refusal → List ℕ → Type 0
ReadsStart s n b = LeavesUnless (line_refusal s n) (heading_in s n) (put_unless (line_refusal s n) (take (length b) (data_in s n)) b)
