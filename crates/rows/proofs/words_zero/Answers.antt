use Rattle.rows.proofs.BoolLaws.{by_test, both, refuted}
use Rattle.rows.proofs.IndexLaws.{all_at, all_from}
use Rattle.rows.proofs.NumberLaws.{eight_zero, eight_some}
use Rattle.rows.specs.Words.{all, zero_at}
use borrow.Author.Tests.{ltb-true, ltb-false}
use lib.Dec.{ltb}
use mathlib.Core.Path.{refl, sym, ◌∙◌}
use native.Mathlib.Nat.{le_antisymm}
use native.Mathlib.Omega.{arith}
use Prim.Native.Nat.{◌*◌}
use Rattle.rows.proofs.words_zero.Goals as goal

pub loop-k-init : goal.loop-k-init
unfolding all
loop-k-init c = (omega arith, refl)

pub returns-then-low_first_at-ne0 : goal.returns-then-low_first_at-ne0
returns-then-low_first_at-ne0 c =
    let s = c.args.s.now in
    let at = 8 * c.loop-k.k in
    refuted _ (λ z. both (all_from (zero_at s) _ (λ j l. all_at (zero_at s) _ j z (omega arith))) (eight_some s at (omega arith) (λ e. c.if-low_first_at-ne0.true (c.low_first_at.ensures ∙ e))))

pub loop-k-preserved : goal.loop-k-preserved
loop-k-preserved c =
    let s = c.args.s.now in
    let at = 8 * c.loop-k.k in (
      omega arith,
      all_from (zero_at s) _ (λ j l. by_test (ltb j at)
          (λ y. all_at (zero_at s) at j c.loop-k.invariant.1 (ltb-true j at y))
          (λ m. eight_zero s at (omega arith) (sym c.low_first_at.ensures ∙ c.if-low_first_at-ne0.false) j (ltb-false j at m) (omega arith))),
    )

pub returns : goal.returns
returns c =
    let s = c.args.s.now in
    sym (all_from (zero_at s) _ (λ j l. all_at (zero_at s) _ j c.loop-k.invariant.1 (omega (arith, le_antisymm c.loop-k.invariant.0 c.loop-k-test.false))))
