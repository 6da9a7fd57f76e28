use Rattle.rows.specs.Rows.{part, put}
use lib.ListN.{length}
use mathlib.Core.Path.{◌≡◌}
use Prim.Native.Nat.{◌≤◌}
use Rattle.rows.proofs.slide.Given as goal

abbrev pub invariant-loop-k : goal.invariant-loop-k
invariant-loop-k l = (l.k ≤ l.n) × (l.s ≡ put l.initial.s l.to (part l.initial.s l.from l.k)) × (length l.s ≡ length l.initial.s)
