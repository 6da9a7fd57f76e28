use Rattle.station.proofs.GoodLaws.{front_starts, front_breaks}
use Rattle.station.specs.Good.{in_front}
use Rattle.station.specs.State.{listed}
use Rattle.rows.proofs.IndexLaws.{pass_on, pass_breaks, pass_ends}
use mathlib.Core.Path.{sym, ◌∙◌}
use native.Mathlib.Nat.{le_refl}
use native.Mathlib.Omega.{arith}
use Rattle.station.proofs.rules.used_first.Goals as goal

pub returns-in_default : goal.returns-in_default
unfolding listed
returns-in_default c = pass_ends _ _ (front_starts _ _) (omega (arith, c.in_default.ensures))

pub loop-i-init : goal.loop-i-init
unfolding listed
loop-i-init c = rw c.in-Some.ensures.0 (front_starts _ _, le_refl _)

pub returns-then-not-is_unused : goal.returns-then-not-is_unused
unfolding listed
returns-then-not-is_unused c =
    pass_breaks _ _ c.loop-i-test.true (front_breaks _ _ c.loop-i.i c.loop-i.invariant.1 c.loop-i-test.true (sym c.is_unused.ensures ∙ c.if-not-is_unused.true))

pub loop-i-preserved : goal.loop-i-preserved
unfolding in_front
loop-i-preserved c =
    (pass_on _ _ c.loop-i.invariant.0 c.loop-i-test.true (rw (sym c.is_unused.ensures ∙ c.if-not-is_unused.false)), omega arith)

pub returns : goal.returns
returns c = pass_ends _ _ c.loop-i.invariant.0 c.loop-i-test.false
