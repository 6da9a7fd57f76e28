use Prim.Native.Nat.{◌-◌}
use Rattle.framing.specs.Bits.{to_bits}
use Rattle.framing.proofs.QuietLaws.{Quiet}
use Rattle.framing.proofs.receive.quiet.Given as goal

abbrev pub invariant-loop-taken : goal.invariant-loop-taken
invariant-loop-taken l = Quiet (to_bits l.s) l.n l.from l.at l.ones

abbrev pub decreases-loop-taken : goal.decreases-loop-taken
decreases-loop-taken l = l.n - l.at
