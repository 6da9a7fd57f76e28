-- Writing a frame: what is answered, and what the buffer b then holds.
use Rattle.std.specs.Prelude.{ℕ, cond, not, ◌&&◌, List, Result, eqb, leb, ltb, length}
use Rattle.rows.specs.Rows.{over}
use Rattle.refusals.specs.declared.Refusal.{Refusal}
use Rattle.refusals.specs.Outcomes.{LeavesUnless}
use Rattle.framing.specs.Bits.{bytes_for, pack}
use Rattle.framing.specs.Frame.{frame_bits}

-- 17 data not 1 to 1024 bytes; 13 the bytes that hold the bits do not fit; 0 none of these
unfoldable pub write_refusal : ℕ → List ℕ → List ℕ → ℕ
write_refusal user d b =
    cond (not (leb 1 (length d) && leb (length d) 1024)) 17
    (cond (ltb (length b) (bytes_for (length (frame_bits user d)))) 13
    0)

-- the bits stand at the start and the bytes after them stay; nothing changes where it is refused
unfoldable pub bits_after : ℕ → List ℕ → List ℕ → List ℕ
bits_after user d b = cond (eqb (write_refusal user d b) 0) (over (pack (frame_bits user d)) b) b

-- the number of bits, or the refusal
abbrev pub Writes : ℕ → List ℕ → List ℕ → Result ℕ Refusal → List ℕ → Type 0
Writes user d b = LeavesUnless (write_refusal user d b) (length (frame_bits user d)) (bits_after user d b)
