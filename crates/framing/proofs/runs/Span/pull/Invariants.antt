use Prim.Native.Nat.{◌-◌, ◌≤◌}
use lib.ListN.{length}
use Rattle.framing.specs.Inner.{coming, Goes}
use Rattle.framing.proofs.runs.Span.pull.Given as goal

abbrev pub invariant-loop-r : goal.invariant-loop-r
invariant-loop-r l = Goes l.self l.initial.r l.r × (8 ≤ length (coming l.self l.r))

abbrev pub decreases-loop-r : goal.decreases-loop-r
decreases-loop-r l = l.self.to - l.r.at
