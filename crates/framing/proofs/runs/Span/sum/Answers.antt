use native.Mathlib.Omega.{arith}
use Rattle.framing.proofs.SumLaws.{sum_starts, sum_step, sum_byte, sum_fits, sum_ends}
use Rattle.framing.proofs.runs.Span.sum.Goals as goal

pub loop-t-init : goal.loop-t-init
loop-t-init c = let new = c.new-t.ensures in (sum_starts c.args.self.now _ new.0 new.1 new.2 new.3, omega arith)

pub overflow_add-bytes : goal.overflow_add-bytes
overflow_add-bytes c =
    let at = c.loop-t in
    record { fits = omega (arith, sum_fits c.args.self.now at.register at.bytes at.t at.invariant.0) }

pub loop-t-preserved-then-t-ge8 : goal.loop-t-preserved-then-t-ge8
loop-t-preserved-then-t-ge8 c =
    let at = c.loop-t in
    let step = c.step-t in
    let rest = c.rest_of-t.ensures in
    let full = c.if-t-ge8.true in (
      sum_byte c.args.self.now at.register at.bytes step.result c.rest_of-t.result c.byte_of.result c.add_byte-register.result (sum_step c.args.self.now at.register at.bytes at.t step.result at.invariant.0 step.ensures.0) full
          rest.0 rest.1 rest.2 rest.3 c.byte_of.ensures c.add_byte-register.ensures,
      omega (arith, rest.3, step.result.short),
    )

pub loop-t-preserved : goal.loop-t-preserved
loop-t-preserved c =
    let at = c.loop-t in
    let step = c.step-t in
    (sum_step c.args.self.now at.register at.bytes at.t step.result at.invariant.0 step.ensures.0, omega (arith, c.if-t-ge8.false))

pub returns : goal.returns
returns c =
    let at = c.loop-t in
    sum_ends c.args.self.now at.register at.bytes at.t at.invariant.0 at.invariant.1 c.loop-t-test.false
