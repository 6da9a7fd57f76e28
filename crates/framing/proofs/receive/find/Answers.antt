use Prim.Native.Nat.{◌+◌, ◌≤◌}
use native.Mathlib.Omega.{arith}
use mathlib.Core.Path.{sym, ◌∙◌}
use lib.ListN.{length}
use Rattle.framing.specs.Bits.{to_bits}
use Rattle.framing.specs.Reading.{scan_refusal}
use Rattle.framing.proofs.BitLaws.{length_to_bits}
use Rattle.framing.proofs.ScanLaws.{scan_seven, scan_one, scan_closes, scan_after, scan_ends}
use Rattle.framing.proofs.QuietLaws.{scan_passed}
use Rattle.framing.proofs.receive.find.Goals as goal

pub returns-then-ones-eq6 : goal.returns-then-ones-eq6
unfolding scan_refusal
returns-then-ones-eq6 c =
    let at = c.loop-at in
    let a = c.args in
    let w = c.requires.1 in
    let bit = c.bit_at-bit in
    rw (sym (scan_seven (to_bits a.s.now) a.n at.from at.at at.ones (omega (arith, length_to_bits a.s.now, w)) at.invariant c.loop-at-test.true (sym bit.ensures ∙ c.if-bit.true) c.if-ones-eq6.true))

pub loop-at-preserved-then-bit : goal.loop-at-preserved-then-bit
loop-at-preserved-then-bit c =
    let at = c.loop-at in
    let a = c.args in
    let w = c.requires.1 in
    let bit = c.bit_at-bit in
    scan_one (to_bits a.s.now) a.n at.from at.at at.ones (omega (arith, length_to_bits a.s.now, w)) at.invariant c.loop-at-test.true (sym bit.ensures ∙ c.if-bit.true) c.if-ones-eq6.false

pub returns-then-closes : goal.returns-then-closes
returns-then-closes c =
    let at = c.loop-at in
    let a = c.args in
    let w = c.requires.1 in
    let bit = c.bit_at-bit in
    let closed = scan_closes (to_bits a.s.now) a.n at.from at.at at.ones (omega (arith, length_to_bits a.s.now, w)) at.invariant c.loop-at-test.true (sym bit.ensures ∙ c.if-bit.false) (sym c.closes.ensures ∙ c.if-closes.true) in
    sym closed.0

pub invariant_of-result : goal.invariant_of-result
invariant_of-result c =
    let at = c.loop-at in
    let a = c.args in
    let w = c.requires.1 in
    let bit = c.bit_at-bit in
    let closed = scan_closes (to_bits a.s.now) a.n at.from at.at at.ones (omega (arith, length_to_bits a.s.now, w)) at.invariant c.loop-at-test.true (sym bit.ensures ∙ c.if-bit.false) (sym c.closes.ensures ∙ c.if-closes.true) in
    record { order = closed.1.0; within = omega (arith, closed.1.1, w) }

pub loop-at-preserved : goal.loop-at-preserved
loop-at-preserved c =
    let at = c.loop-at in
    let a = c.args in
    let w = c.requires.1 in
    let bit = c.bit_at-bit in
    let long : a.n ≤ length (to_bits a.s.now) = omega (arith, length_to_bits a.s.now, w) in
    scan_passed (to_bits a.s.now) a.n _ (at.at + 1) c.quiet-q.result long
    (rw c.next_start-from.ensures
    (scan_after (to_bits a.s.now) a.n at.from at.at at.ones long at.invariant c.loop-at-test.true (sym bit.ensures ∙ c.if-bit.false) (sym c.closes.ensures ∙ c.if-closes.false)))
    c.quiet-q.ensures

pub returns : goal.returns
unfolding scan_refusal
returns c = let at = c.loop-at in rw (sym (scan_ends _ _ at.from at.at at.ones at.invariant c.loop-at-test.false))
