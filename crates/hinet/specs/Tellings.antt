-- What an entry tells that answers a Result.
use Rattle.std.specs.Prelude.{Result, Ok, Err}
use Rattle.master.specs.Answers.{Told}

-- what was done tells this, and what refused it that
unfoldable pub either_told : {A E : Type 0} → (A → Told) → (E → Told) → Result A E → Told
either_told done refused (Ok a) = done a
either_told done refused (Err e) = refused e
