use Prim.Native.Nat.{◌+◌, ◌/◌, ◌%◌}
use native.Mathlib.Omega.{arith}
use mathlib.Core.Path.{refl, ap}
use Rattle.framing.specs.Bits.{bits_of}
use Rattle.framing.proofs.BitLaws.{bits_halves}
use Rattle.framing.proofs.TakeLaws.{taken_both, above_lt}
use Rattle.framing.proofs.zeros.byte_taken.Goals as goal

pub invariant_of-result : goal.invariant_of-result
invariant_of-result c =
    let low = c.half_taken-low in
    let high = c.half_taken-high in
    record {
      short = omega (arith, low.ensures.1, high.ensures.1);
      small = rw c.raised.ensures (above_lt low.result.count high.result.count low.result.bits high.result.bits low.result.small high.result.small);
      few = high.result.few;
    }

pub returns : goal.returns
returns c =
    let a = c.args in
    let low = c.half_taken-low in
    let high = c.half_taken-high in
    rw (bits_halves a.byte)
    (taken_both a.ones (bits_of 4 (a.byte % 16)) (bits_of 4 (a.byte / 16)) low.result high.result _ low.ensures.0 high.ensures.0
    (ap (λ n. low.result.bits + n) c.raised.ensures) refl refl refl)
