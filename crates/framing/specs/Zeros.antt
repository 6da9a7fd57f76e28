-- A zero after five ones. k ones stand before the bits.
use Rattle.std.specs.Prelude.{ℕ, ◌+◌, Bool, true, false, cond, List, [], ◌∷◌, eqb}

-- put in: after the fifth one comes a zero, also at the end
unfoldable pub with_zeros : ℕ → List Bool → List Bool
with_zeros k [] = []
with_zeros k (false ∷ bs) = false ∷ with_zeros 0 bs
with_zeros k (true ∷ bs) = cond (eqb k 4) (true ∷ false ∷ with_zeros 0 bs) (true ∷ with_zeros (k + 1) bs)

-- taken out: the bit after five ones goes. Where the bits end in five ones there is none to go
unfoldable pub without_zeros : ℕ → List Bool → List Bool
without_zeros k [] = []
without_zeros k (b ∷ bs) = cond (eqb k 5) (without_zeros 0 bs) (b ∷ without_zeros (cond b (k + 1) 0) bs)
