-- Names: when two are equal (02, Req 06). Some stations pad a name with zeros, others with spaces.
use Rattle.std.specs.Prelude.{ℕ, Bool, cond, ◌||◌, List, [], ◌∷◌, eqb}
use Rattle.rows.specs.Words.{same}

-- a zero or a space
unfoldable pub pads : ℕ → Bool
pads b = eqb b 0 || eqb b 32

-- a byte in front of what is left behind it: where nothing is left, a zero or a space is dropped too
unfoldable pub keeping : ℕ → List ℕ → List ℕ
keeping b [] = cond (pads b) [] (b ∷ [])
keeping b (c ∷ rest) = b ∷ (c ∷ rest)

-- the normal form of a name: trailing zeros and spaces, in any mix, are dropped
unfoldable pub trimmed : List ℕ → List ℕ
trimmed [] = []
trimmed (b ∷ rest) = keeping b (trimmed rest)

-- two names are equal when they agree after that
unfoldable pub same_name : List ℕ → List ℕ → Bool
same_name a b = same (trimmed a) (trimmed b)
