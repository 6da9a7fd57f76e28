-- What an entry that may refuse answers. Rules give the number of the refusal, with 0 for none, and the answer without one.
use Rattle.std.specs.Prelude.{ℕ, ◌≡◌, List, Result, Ok, Err}
use Rattle.refusals.specs.declared.Refusal.{Refusal}
use Rattle.refusals.specs.Refusals.{number}

-- the number of the refusal, 0 for none
abbrev pub refusal_in : {A : Type 0} → Result A Refusal → ℕ
refusal_in (Ok a) = 0
refusal_in (Err r) = number r

-- refused by the number k; or, with 0 for none, answered with this value
abbrev pub GivesUnless : {A : Type 0} → ℕ → A → Result A Refusal → Type 0
GivesUnless k value (Ok a) = (k ≡ 0) × (a ≡ value)
GivesUnless k value (Err r) = k ≡ number r

-- a call that answers so, and leaves these bytes in what it was lent
pub record LeavesUnless {A : Type 0} (k : ℕ) (value : A) (bytes : List ℕ) (r : Result A Refusal) (after : List ℕ) : Type 0 where
  pub answer : GivesUnless k value r
  pub left : after ≡ bytes
