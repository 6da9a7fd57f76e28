use mathlib.Core.Path.{◌≡◌}
use lib.ListN.{length, take}
use Rattle.framing.specs.Bits.{to_bits}
use Rattle.framing.specs.Inner.{Sends}
use Rattle.framing.proofs.send.put_bytes.Given as goal

abbrev pub invariant-loop-byte : goal.invariant-loop-byte
invariant-loop-byte l = (length l.out ≡ length l.initial.out) × Sends l.initial.out l.initial.p (to_bits (take l.byte-index l.bytes)) l.out l.p
