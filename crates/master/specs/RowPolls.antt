-- The same poll turn over the records lent as one row xs, beside the lock table t.
use Rattle.std.specs.Prelude.{ℕ, Bool, ◌&&◌, List, Result, set}
use Rattle.refusals.specs.declared.Refusal.{Refusal}
use Rattle.who.specs.declared.Station.{Station}
use Rattle.who.specs.Good.{good_row}
use Rattle.who.specs.Row.{station_in, is_in}
use Rattle.locks.specs.Good.{good_locks}
use Rattle.master.specs.declared.Turned.{Turned}
use Rattle.master.specs.Answers.{turn_told}
use Rattle.master.specs.Effects.{Effect, unless, Does}
use Rattle.master.specs.Polls.{turn_refusal, due_now, station_turn, placing}

unfoldable pub row_refusal : ℕ → Bool → List Station → List ℕ → ℕ
row_refusal n heard xs t = turn_refusal (good_row xs && good_locks (is_in xs) t) (is_in xs) n heard (due_now (station_in xs n))

unfoldable pub row_effect : ℕ → Bool → List Station → List ℕ → Effect (List Station)
row_effect n heard xs t = unless (row_refusal n heard xs t) t xs (placing (λ s. set xs n s) (station_turn n (station_in xs n) heard t))

-- what a poll turn over the row gives and leaves, whole
abbrev pub RowPolls : ℕ → Bool → List Station → List ℕ → Result Turned Refusal → List Station → List ℕ → Type 0
RowPolls n heard xs t r xs' t' = Does (row_effect n heard xs t) (turn_told r) t' xs'
