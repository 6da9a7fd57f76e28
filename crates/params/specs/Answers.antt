-- What a size code is answered, and what writing its block gives and leaves. b is the buffer.
use Rattle.std.specs.Prelude.{ℕ, cond, not, List, eqb, ltb, length}
use Rattle.rows.specs.Outcomes.{Leaves}
use Rattle.rows.specs.Rows.{over}
use Rattle.params.specs.declared.System.{System}
use Rattle.params.specs.Tables.{sized}
use Rattle.params.specs.Blocks.{block_bytes}

-- 16 for another size code; 0 for none
unfoldable pub size_refusal : ℕ → ℕ
size_refusal n = cond (sized n) 0 16

-- writing: 13 where the buffer is shorter than 15 bytes, but 16 before that for another size code
unfoldable pub room_refusal : List ℕ → ℕ
room_refusal b = cond (ltb (length b) 15) 13 0

unfoldable pub write_refusal : ℕ → List ℕ → ℕ
write_refusal n b = cond (not (sized n)) 16 (room_refusal b)

-- k is the refusal, 0 for none: the block stands at the start of the buffer and the bytes after it stay, or nothing changes
abbrev pub put_unless : ℕ → List ℕ → List ℕ → List ℕ
put_unless k block b = cond (eqb k 0) (over block b) b

abbrev pub Puts : ℕ → List ℕ → List ℕ → ℕ → List ℕ → Type 0
Puts k block b = Leaves k (put_unless k block b)

-- a system's block of size code n written
abbrev pub buffer_after : System → ℕ → List ℕ → List ℕ
buffer_after system n b = put_unless (write_refusal n b) (block_bytes system n) b

abbrev pub Writes : System → ℕ → List ℕ → ℕ → List ℕ → Type 0
Writes system n b = Leaves (write_refusal n b) (buffer_after system n b)
