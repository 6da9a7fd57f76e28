use native.Mathlib.Omega.{arith}
use mathlib.Core.Path.{sym, ◌∙◌}
use Rattle.framing.proofs.TakeLaws.{whole_place}
use Rattle.framing.proofs.QuietLaws.{quiet_more}
use Rattle.framing.proofs.receive.quiet.Goals as goal

pub bounds-s-at : goal.bounds-s-at
bounds-s-at c =
    let at = c.loop-taken in
    let whole = whole_place at.at _ (sym c.is_whole.ensures ∙ c.loop-taken-test.true) at.invariant.inside in
    omega (arith, whole.1, c.requires.0)

pub overflow_add-at : goal.overflow_add-at
overflow_add-at c =
    let at = c.loop-taken in
    let whole = whole_place at.at _ (sym c.is_whole.ensures ∙ c.loop-taken-test.true) at.invariant.inside in
    record { fits = omega (arith, whole.1) }

pub loop-taken-smaller : goal.loop-taken-smaller
loop-taken-smaller c =
    let at = c.loop-taken in
    let whole = whole_place at.at _ (sym c.is_whole.ensures ∙ c.loop-taken-test.true) at.invariant.inside in
    omega (arith, whole.1)

pub loop-taken-preserved : goal.loop-taken-preserved
loop-taken-preserved c =
    let at = c.loop-taken in
    let a = c.args in
    let pre = c.requires in
    let z = c.byte_taken-taken in
    let whole = whole_place at.at a.n (sym c.is_whole.ensures ∙ c.loop-taken-test.true) at.invariant.inside in
    quiet_more a.s.now a.n a.from at.at at.ones z.result pre.0 at.invariant whole.0 whole.1 z.ensures c.if-taken-ne0.false
