-- The 16-bit frame check of RFC 1662, as its shift register.
use Rattle.std.specs.Prelude.{ℕ, zero, suc, ◌-◌, ◌/◌, cond, List, [], ◌∷◌}
use Rattle.std.specs.Int.Bits.{bit_xor}
use Rattle.rows.specs.Words.{build}
use Rattle.rows.specs.Numbers.{low_bytes}
use Rattle.framing.specs.Bits.{odd}

-- a step shifts right by one, and adds the polynomial (exclusive or) where a one falls out
unfoldable pub step : ℕ → ℕ
step v = cond (odd v) (bit_xor (v / 2) 0x8408) (v / 2)

unfoldable pub steps : ℕ → ℕ → ℕ
steps zero v = v
steps (suc n) v = steps n (step v)

-- the table: eight steps of each index
unfoldable pub check_table : List ℕ
check_table = build (steps 8) 256

-- a byte is added to the register (exclusive or), then eight steps
unfoldable pub check_byte : ℕ → ℕ → ℕ
check_byte f b = steps 8 (bit_xor f b)

-- bytes, from a start value
unfoldable pub check_from : ℕ → List ℕ → ℕ
check_from f [] = f
check_from f (b ∷ bs) = check_from (check_byte f b) bs

-- the register starts with ones, and its complement is sent, low byte first
unfoldable pub check : List ℕ → ℕ
check bs = 0xFFFF - check_from 0xFFFF bs

unfoldable pub check_bytes : List ℕ → List ℕ
check_bytes bs = low_bytes 2 (check bs)
