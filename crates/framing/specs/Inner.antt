-- Contracts of the functions inside: tables, bits on their way out and in. No rule names these words.
use Rattle.std.specs.Prelude.{ℕ, ◌+◌, ◌-◌, ◌*◌, ◌/◌, ◌%◌, ◌^◌, ◌<◌, ◌≤◌, ◌≡◌, Bool, true, false, cond, ◌&&◌, List, [], ◌∷◌, ◌++◌, eqb, leb, length, take, drop, get_or, Result, Ok, Err}
use Rattle.refusals.specs.declared.Refusal.{Refusal}
use Rattle.refusals.specs.Refusals.{number}
use Rattle.rows.specs.Words.{build}
use Rattle.framing.specs.Bits.{bits_of, to_bits, bit, value, packed}
use Rattle.framing.specs.Zeros.{with_zeros, without_zeros}
use Rattle.framing.specs.Check.{check_from}
use Rattle.framing.specs.Reading.{stopped, scan, scanned, content_refusal, scan_refusal, line_refusal}
use Rattle.framing.specs.declared.runs.Run.{Run}
use Rattle.framing.specs.declared.runs.Taken.{Taken}
use Rattle.framing.specs.declared.runs.Pen.{Pen}
use Rattle.framing.specs.declared.runs.Tally.{Tally}
use Rattle.framing.specs.declared.runs.Taker.{Taker}
use Rattle.framing.specs.declared.runs.Passed.{Passed}
use Rattle.framing.specs.declared.runs.Span.{Span}
use Rattle.framing.specs.declared.take.Summed.{Summed}
use Rattle.framing.specs.declared.Measured.{Measured}

-- the ones that stand last: of bits with their zeros put in, and of bits whose zeros are taken out
unfoldable pub ones_after : ℕ → List Bool → ℕ
ones_after k [] = k
ones_after k (false ∷ bs) = ones_after 0 bs
ones_after k (true ∷ bs) = cond (eqb k 4) (ones_after 0 bs) (ones_after (k + 1) bs)

unfoldable pub run_after : ℕ → List Bool → ℕ
run_after k [] = k
run_after k (b ∷ bs) = cond (eqb k 5) (run_after 0 bs) (run_after (cond b (k + 1) 0) bs)

-- how many of the bits taken out were ones, so that a flag or seven ones may follow
unfoldable pub sixths : ℕ → List Bool → ℕ
sixths k [] = 0
sixths k (b ∷ bs) = cond (eqb k 5) (bit b + sixths 0 bs) (sixths (cond b (k + 1) 0) bs)

-- the entry of half a byte x after k ones, at 16 * k + x: the bits, one more for their count, and the ones that stand last
unfoldable pub half_at : ℕ → List Bool
half_at i = bits_of 4 (i % 16)

unfoldable pub put_entry : ℕ → ℕ
put_entry i =
    value (with_zeros (i / 16) (half_at i)) + 32 * (length (with_zeros (i / 16) (half_at i)) - 4) + 64 * ones_after (i / 16) (half_at i)

unfoldable pub put_table : List ℕ
put_table = build put_entry 80

unfoldable pub taken_entry : ℕ → ℕ
taken_entry i =
    value (without_zeros (i / 16) (half_at i)) + 16 * (length (without_zeros (i / 16) (half_at i)) - 3) + 32 * run_after (i / 16) (half_at i)
    + 256 * sixths (i / 16) (half_at i)

unfoldable pub taken_table : List ℕ
taken_table = build taken_entry 96

-- bits after k ones, with their zeros put in
pub record PutIn (k : ℕ) (bs : List Bool) (r : Run) : Type 0 where
  pub bits : bits_of r.count r.bits ≡ with_zeros k bs
  pub ones : r.ones ≡ ones_after k bs

-- bits after k ones, with their zeros taken out
pub record TakenOut (k : ℕ) (bs : List Bool) (r : Taken) : Type 0 where
  pub bits : bits_of r.count r.bits ≡ without_zeros k bs
  pub ones : r.ones ≡ run_after k bs
  pub sixths : r.sixths ≡ sixths k bs

-- the bits counted so far, and then more
pub record Counts (t : Tally) (bs : List Bool) (r : Tally) : Type 0 where
  pub bits : r.bits ≡ t.bits + length (with_zeros t.ones bs)
  pub ones : r.ones ≡ ones_after t.ones bs

-- the bits that stand in the first bytes, and those in hand
unfoldable pub standing : List ℕ → Pen → List Bool
standing out p = to_bits (take p.at out) ++ bits_of p.held p.acc

unfoldable pub place : Pen → ℕ
place p = 8 * p.at + p.held

-- room for bits with their zeros
abbrev pub HasRoom : List ℕ → Pen → List Bool → Type 0
HasRoom out p bs = place p + length (with_zeros p.ones bs) ≤ 8 * length out

-- each is a byte
abbrev pub EachByte : List ℕ → Type 0
EachByte l = (i : ℕ) → get_or l i 0 < 2 ^ 8

-- bits laid: they stand after the others, and the bytes after those written stay
pub record Lays (out : List ℕ) (p : Pen) (bs : List Bool) (out' : List ℕ) (p' : Pen) : Type 0 where
  pub bits : standing out' p' ≡ standing out p ++ bs
  pub rest : drop p'.at out' ≡ drop p'.at out
  pub further : p.at ≤ p'.at
  pub inside : p'.at ≤ length out

-- bits sent: laid with their zeros
pub record Sends (out : List ℕ) (p : Pen) (bs : List Bool) (out' : List ℕ) (p' : Pen) : Type 0 where
  pub lays : Lays out p (with_zeros p.ones bs) out' p'
  pub ones : p'.ones ≡ ones_after p.ones bs

-- the bits of a span, and the same without their zeros
abbrev pub between : Span → List Bool
between span = drop span.from (take span.to (to_bits span.bytes.now))

abbrev pub plain : Span → List Bool
plain span = without_zeros 0 (between span)

-- a whole byte stands at a place before another
unfoldable pub whole_byte : ℕ → ℕ → Bool
whole_byte at to = eqb (at % 8) 0 && leb 8 (to - at)

-- the bits that a taker still gives: those in hand, and those of the span that it has not gone over, without their zeros
unfoldable pub coming : Span → Taker → List Bool
coming span t = bits_of t.held t.acc ++ without_zeros t.ones (drop t.at (take span.to (to_bits span.bytes.now)))

-- a taker that went on and gives the same bits
pub record Goes (span : Span) (t t' : Taker) : Type 0 where
  pub same : coming span t' ≡ coming span t
  pub inside : t'.at ≤ span.to
  pub further : t.at ≤ t'.at

-- all whole bytes of the bits c: how many, their register, and how many bits are left
pub record Sums (c : List Bool) (r : Summed) : Type 0 where
  pub bytes : r.bytes ≡ length c / 8
  pub left : r.left ≡ length c % 8
  pub register : r.register ≡ check_from 0xFFFF (packed r.bytes c)

-- a scan goes on after bits without a sixth one
pub record Passes (b : List Bool) (n at : ℕ) (r : Passed) : Type 0 where
  pub order : at ≤ r.at
  pub inside : r.at ≤ n
  pub few : r.ones ≤ 5
  pub rest : (since : List Bool) → scan 0 since (drop at (take n b)) ≡ scan r.ones (since ++ drop at (take r.at b)) (drop r.at (take n b))

-- where the search for the closing flag stopped: at the end of a span, or refused
abbrev pub Stops : List ℕ → ℕ → Result Span Refusal → Type 0
Stops s n (Ok span) = scan 0 [] (drop 8 (take n (to_bits s))) ≡ stopped (between span)
Stops s n (Err r) = scan_refusal (scan 0 [] (drop 8 (take n (to_bits s)))) ≡ number r

-- a span without its zeros is a content: its bytes are data and three more
pub record Holds (span : Span) (len : ℕ) : Type 0 where
  pub good : content_refusal (plain span) ≡ 0
  pub long : length (plain span) ≡ 8 * (len + 3)
  pub least : 1 ≤ len
  pub most : len ≤ 1024

-- how many bytes of a span are data, or why it is no content
abbrev pub Weighs : Span → Result ℕ Refusal → Type 0
Weighs span (Ok len) = Holds span len
Weighs span (Err r) = content_refusal (plain span) ≡ number r

-- the content that stands on the line
abbrev pub Measures : List ℕ → ℕ → Result Measured Refusal → Type 0
Measures s n (Ok c) = (scanned s n ≡ stopped (between c.span)) × Holds c.span c.length
Measures s n (Err r) = line_refusal s n ≡ number r
