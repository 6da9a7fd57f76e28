use Prim.Native.Nat.{◌+◌, ◌/◌, ◌%◌}
use native.Mathlib.Omega.{arith}
use mathlib.Core.Path.{refl, ap}
use lib.Pow.{pow_mono}
use Rattle.framing.specs.Inner.{place}
use Rattle.framing.proofs.PenLaws.{acc_small, left_short, left_small, lays_short, lays_full}
use Rattle.framing.proofs.send.put.Goals as goal

pub overflow_add-acc : goal.overflow_add-acc
overflow_add-acc c =
    let a = c.args in
    record { fits = rw c.raised.ensures (omega (arith, acc_small a.pen a.run, pow_mono {i = a.pen.held + a.run.count} {j = 16} (omega (arith, a.pen.short, a.run.short)))) }

pub invariant_of-result : goal.invariant_of-result
invariant_of-result c = let a = c.args in record { short = c.if-held-lt8.true; small = rw c.raised.ensures (acc_small a.pen a.run); few = a.run.few }

pub returns-then-held-lt8 : goal.returns-then-held-lt8
unfolding place
returns-then-held-lt8 c =
    let a = c.args in
    (lays_short _ a.pen a.run _ (omega (arith, c.requires)) refl (ap (λ n. a.pen.acc + n) c.raised.ensures) refl, refl)

pub bounds-out-at : goal.bounds-out-at
unfolding place
bounds-out-at c = omega (arith, c.requires, c.if-held-lt8.false)

pub overflow_add-result : goal.overflow_add-result
unfolding place
overflow_add-result c = record { fits = omega (arith, c.requires, c.if-held-lt8.false) }

pub invariant_of-result-2 : goal.invariant_of-result-2
invariant_of-result-2 c =
    let a = c.args in
    record { short = left_short a.pen a.run; small = rw c.raised.ensures (left_small a.pen a.run c.if-held-lt8.false); few = a.run.few }

pub returns : goal.returns
unfolding place
returns c =
    let a = c.args in
    let acc = ap (λ n. a.pen.acc + n) c.raised.ensures in
    (lays_full _ a.pen a.run _ c.if-held-lt8.false (omega (arith, c.requires, c.if-held-lt8.false)) _ (ap (λ n. n % 256) acc) refl (ap (λ n. n / 256) acc) refl, refl)
