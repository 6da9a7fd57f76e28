use Prim.Native.Nat.{◌+◌, ◌*◌, ◌≤◌}
use lib.ListN.{take}
use Rattle.framing.specs.Bits.{to_bits}
use Rattle.framing.specs.Inner.{Counts}
use Rattle.framing.proofs.send.count_bytes.Given as goal

abbrev pub invariant-loop-byte : goal.invariant-loop-byte
invariant-loop-byte l = (l.t.bits ≤ l.initial.t.bits + 10 * l.byte-index) × Counts l.initial.t (to_bits (take l.byte-index l.bytes)) l.t
