-- Numbers in bytes, low byte first, of any width; and their bits.
use Rattle.std.specs.Prelude.{ℕ, zero, suc, ◌+◌, ◌*◌, ◌/◌, ◌%◌, ◌^◌, Bool, List, [], ◌∷◌, eqb}

-- the number that stands in the bytes
unfoldable pub low_first : List ℕ → ℕ
low_first [] = 0
low_first (b ∷ bs) = b + 256 * low_first bs

-- the n bytes in which x stands
unfoldable pub low_bytes : ℕ → ℕ → List ℕ
low_bytes zero x = []
low_bytes (suc n) x = (x % 256) ∷ low_bytes n (x / 256)

-- bit n of a number is set
unfoldable pub bit_at : ℕ → ℕ → Bool
bit_at x n = eqb (x / 2 ^ n % 2) 1
