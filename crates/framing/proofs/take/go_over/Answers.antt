use native.Mathlib.Omega.{arith}
use lib.Pow.{pow_mono}
use Prim.Native.Nat.{◌+◌}
use Rattle.framing.proofs.TakeLaws.{above_lt}
use Rattle.framing.proofs.take.go_over.Goals as goal

pub raised-requires : goal.raised-requires
raised-requires c = let z = c.args.taken in (omega (arith, z.small, pow_mono {i = z.count} {j = 8} z.short), c.requires.0)

pub overflow_add-result-2 : goal.overflow_add-result-2
overflow_add-result-2 c =
    let t = c.args.t in
    let z = c.args.taken in
    record { fits = rw c.raised.ensures (omega (arith, above_lt t.held z.count t.acc z.bits t.small z.small, pow_mono {i = t.held + z.count} {j = 16} (omega (arith, c.requires.0, z.short)))) }

pub invariant_of-result : goal.invariant_of-result
invariant_of-result c =
    let t = c.args.t in
    let z = c.args.taken in
    record { short = omega (arith, c.requires.0, z.short); small = rw c.raised.ensures (above_lt t.held z.count t.acc z.bits t.small z.small); few = z.few }
