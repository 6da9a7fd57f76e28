-- Bits on the line, low bit first, and the bytes that hold them.
use Rattle.std.specs.Prelude.{ℕ, zero, suc, ◌+◌, ◌*◌, ◌/◌, ◌%◌, Bool, cond, List, [], ◌∷◌, ◌++◌, eqb, length, take, drop}

unfoldable pub odd : ℕ → Bool
odd x = eqb (x % 2) 1

-- the n low bits of a number
unfoldable pub bits_of : ℕ → ℕ → List Bool
bits_of zero x = []
bits_of (suc n) x = odd x ∷ bits_of n (x / 2)

-- the bits of bytes, one byte after the other
unfoldable pub to_bits : List ℕ → List Bool
to_bits [] = []
to_bits (x ∷ xs) = bits_of 8 x ++ to_bits xs

-- the number that bits are
unfoldable pub bit : Bool → ℕ
bit b = cond b 1 0

unfoldable pub value : List Bool → ℕ
value [] = 0
value (b ∷ bs) = value bs * 2 + bit b

-- the bytes that hold bits: how many, and these; the unused bits of the last are zero
unfoldable pub bytes_for : ℕ → ℕ
bytes_for n = (n + 7) / 8

unfoldable pub packed : ℕ → List Bool → List ℕ
packed zero bs = []
packed (suc n) bs = value (take 8 bs) ∷ packed n (drop 8 bs)

unfoldable pub pack : List Bool → List ℕ
pack bs = packed (bytes_for (length bs)) bs
