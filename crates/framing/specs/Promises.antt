-- The words of the theorems in proofs/Theorems.antt: where bits stand, and what a frame that reads well looks like.
use Rattle.std.specs.Prelude.{ℕ, ◌*◌, ◌≤◌, ◌≡◌, Bool, false, ◌⊎◌, List, [], ◌∷◌, ◌++◌, length, take, drop}
use Rattle.framing.specs.Bits.{to_bits}
use Rattle.framing.specs.Zeros.{with_zeros}
use Rattle.framing.specs.Frame.{flag, content}
use Rattle.framing.specs.Inner.{run_after}

-- bits stand first among the m bits of s; any bits may follow them
pub record First (bs : List Bool) (s : List ℕ) (m : ℕ) : Type 0 where
  pub enough : length bs ≤ m
  pub inside : m ≤ 8 * length s
  pub same : take (length bs) (to_bits s) ≡ bs

-- flags one after the other, each whole or sharing its zero with the one before
pub data Flags : List Bool → Type 0 where
  done : Flags []
  whole : {l : List Bool} → Flags l → Flags (flag ++ l)
  shared : {l : List Bool} → Flags l → Flags (drop 1 flag ++ l)

-- a frame with this user number and data stands first: a flag, flags that follow at once, the bits as writing puts them, and a flag. Where
-- those bits end in five ones (`run_after` tells how many stand last) the zero after them may be missing
pub record Sent (bs : List Bool) (user : ℕ) (d : List ℕ) : Type 0 where
  pub lead : List Bool
  pub raw : List Bool
  pub tail : List Bool
  pub flags : Flags lead
  pub parts : bs ≡ flag ++ (lead ++ (raw ++ (flag ++ tail)))
  pub zeros : (raw ≡ with_zeros 0 (to_bits (content user d))) ⊎ ((raw ++ (false ∷ []) ≡ with_zeros 0 (to_bits (content user d))) × (run_after 0 raw ≡ 5))
