use Rattle.locks.specs.Good.{fresh_locks}
use Rattle.locks.specs.Row.{free_row}
use Rattle.rows.proofs.RowLaws.{length_copies}
use Rattle.rows.specs.Rows.{copies}
use lib.ListN.{length, drop_of_length-le}
use mathlib.Core.List.{List, ◌++◌, append-nil}
use mathlib.Core.Path.{ap, ◌∙◌}
use native.Mathlib.Omega.{arith}
use Prim.Native.Nat.{ℕ}
use Rattle.locks.proofs.fresh.Goals as goal

pub returns : goal.returns
unfolding fresh_locks
returns c = let t = c.args.table.now in
    c.fill.ensures ∙ ap (λ (l : List ℕ). copies 64 free_row ++ l) (drop_of_length-le t {i = length (copies 64 free_row)} (omega (arith, length_copies 64 free_row))) ∙ append-nil (copies 64 free_row)
