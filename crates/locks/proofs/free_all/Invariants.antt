use Rattle.locks.specs.Row.{freed}
use Rattle.rows.specs.Rows.{each_row}
use mathlib.Core.Path.{◌≡◌}
use Rattle.locks.proofs.free_all.Given as goal

abbrev pub invariant-loop-i : goal.invariant-loop-i
invariant-loop-i l = l.table ≡ each_row 16 (freed l.who) l.i l.initial.table
