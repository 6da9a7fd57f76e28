use native.Mathlib.Omega.{arith}
use lib.Pow.{pow_mono}
use Rattle.framing.specs.Inner.{place}
use Rattle.framing.proofs.PenLaws.{rest_none, rest_byte}
use Rattle.framing.proofs.send.put_rest.Goals as goal

pub overflow_cast-out : goal.overflow_cast-out
overflow_cast-out c = let pen = c.args.pen in record { fits = omega (arith, pen.small, pow_mono {i = pen.held} {j = 8} (omega (arith, pen.short))) }

pub bounds-out-pen : goal.bounds-out-pen
unfolding place
bounds-out-pen c = omega (arith, c.requires.1, c.if-pen-gt0.true)

pub returns-then-pen-gt0 : goal.returns-then-pen-gt0
unfolding place
returns-then-pen-gt0 c =
    let pre = c.requires in
    rest_byte _ c.args.pen pre.0 (omega (arith, pre.1)) c.if-pen-gt0.true (omega (arith, pre.1, c.if-pen-gt0.true))

pub returns-else-pen-gt0 : goal.returns-else-pen-gt0
unfolding place
returns-else-pen-gt0 c = let pre = c.requires in rest_none _ c.args.pen pre.0 (omega (arith, pre.1)) (omega (arith, c.if-pen-gt0.false))
