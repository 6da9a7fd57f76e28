-- Fresh tables: 64 free rows and only user 0.
use Rattle.std.specs.Prelude.{ℕ, ◌*◌, Bool, cond, ◌&&◌, List, Result, eqb, length}
use Rattle.refusals.specs.declared.Refusal.{Refusal}
use Rattle.who.specs.Good.{numbers}
use Rattle.who.specs.Logins.{fresh_records}
use Rattle.locks.specs.Good.{locks, fresh_locks}
use Rattle.master.specs.Answers.{answers, done_told, no_bytes}
use Rattle.master.specs.Effects.{Effect, telling, unless, Does}

-- tables of another size: refusal 11, and neither is touched
unfoldable pub sized : List ℕ → List ℕ → Bool
sized t w = eqb (length t) (16 * locks) && eqb (length w) (18 * numbers)

unfoldable pub fresh_effect : List ℕ → List ℕ → Effect (List ℕ)
fresh_effect t w = unless (cond (sized t w) 0 11) t w (telling (answers no_bytes) fresh_locks fresh_records)

abbrev pub Freshens : List ℕ → List ℕ → Result (Unit {0}) Refusal → List ℕ → List ℕ → Type 0
Freshens t w r = Does (fresh_effect t w) (done_told r)
