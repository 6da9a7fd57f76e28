use Rattle.rows.specs.Rows.{over, copies}
use lib.ListN.{length}
use mathlib.Core.Path.{◌≡◌}
use Prim.Native.Nat.{◌≤◌}
use Rattle.rows.proofs.fill.Given as goal

abbrev pub invariant-loop-i : goal.invariant-loop-i
invariant-loop-i l = (l.i ≤ l.n) × (l.s ≡ over (copies l.i l.r) l.initial.s) × (length l.s ≡ length l.initial.s)
