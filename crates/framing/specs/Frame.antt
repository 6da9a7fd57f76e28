-- The frame in bits: user number, data and check with a zero after five ones, two flags before and two after.
use Rattle.std.specs.Prelude.{ℕ, Bool, true, false, List, [], ◌∷◌, ◌++◌}
use Rattle.framing.specs.Bits.{to_bits}
use Rattle.framing.specs.Zeros.{with_zeros}
use Rattle.framing.specs.Check.{check_bytes}

unfoldable pub flag : List Bool
flag = false ∷ true ∷ true ∷ true ∷ true ∷ true ∷ true ∷ false ∷ []

-- the content: the check is over user number and data
unfoldable pub content : ℕ → List ℕ → List ℕ
content user d = (user ∷ d) ++ check_bytes (user ∷ d)

-- bytes between the flags
unfoldable pub framed : List ℕ → List Bool
framed c = flag ++ (flag ++ (with_zeros 0 (to_bits c) ++ (flag ++ flag)))

unfoldable pub frame_bits : ℕ → List ℕ → List Bool
frame_bits user d = framed (content user d)
