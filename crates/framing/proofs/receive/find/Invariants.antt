use Prim.Native.Nat.{◌-◌}
use Rattle.framing.specs.Bits.{to_bits}
use Rattle.framing.proofs.ScanLaws.{Scanning}
use Rattle.framing.proofs.receive.find.Given as goal

abbrev pub invariant-loop-at : goal.invariant-loop-at
invariant-loop-at l = Scanning (to_bits l.s) l.n l.from l.at l.ones

abbrev pub decreases-loop-at : goal.decreases-loop-at
decreases-loop-at l = l.n - l.at
