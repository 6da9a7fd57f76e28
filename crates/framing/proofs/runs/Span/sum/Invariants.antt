use Prim.Native.Nat.{◌-◌, ◌<◌}
use Rattle.framing.proofs.SumLaws.{Summing}
use Rattle.framing.proofs.runs.Span.sum.Given as goal

abbrev pub invariant-loop-t : goal.invariant-loop-t
invariant-loop-t l = Summing l.self l.register l.bytes l.t × (l.t.held < 8)

abbrev pub decreases-loop-t : goal.decreases-loop-t
decreases-loop-t l = l.self.to - l.t.at
