-- The records that public contracts cite. Each fixes the answer, and the lent bytes where they can change.
use Rattle.std.specs.Prelude.{ℕ, ◌≡◌, ◌<◌, List, Option, Some, None}

-- a call that only answers
pub record Gives {A : Type 0} (value r : A) : Type 0 where
  pub answer : r ≡ value

-- a call that answers, and leaves these bytes in what it was lent
pub record Leaves {A : Type 0} (value : A) (bytes : List ℕ) (r : A) (after : List ℕ) : Type 0 where
  pub answer : r ≡ value
  pub left : after ≡ bytes

-- a search among the indices below n: the index i that it is for, or none, where that is n
abbrev pub Finds : ℕ → ℕ → Option ℕ → Type 0
Finds n i (Some k) = (k ≡ i) × (k < n)
Finds n i None = n ≡ i
