use Rattle.rows.proofs.BoolLaws.{by_test, both, refuted, iff}
use Rattle.rows.proofs.IndexLaws.{all_at, all_from}
use Rattle.rows.proofs.NumberLaws.{eight_zero, eight_some}
use Rattle.rows.specs.Words.{zero_at, zeros}
use borrow.Author.Tests.{eqb-true, eqb-false, ltb-true, ltb-false}
use lib.Dec.{ltb}
use lib.ListN.{length}
use mathlib.Core.Path.{sym, ◌∙◌}
use native.Mathlib.Omega.{arith}
use Prim.Native.Nat.{◌+◌, ◌-◌, ◌*◌, ◌/◌}
use Rattle.rows.proofs.is_zero.Goals as goal

pub returns-then-not-words_zero : goal.returns-then-not-words_zero
unfolding zeros
returns-then-not-words_zero c =
    let s = c.args.s.now in
    let few = sym c.words_zero.ensures ∙ c.if-not-words_zero.true in
    record { answer = refuted _ (λ z. both (all_from (zero_at s) (8 * (length s / 8)) (λ j l. all_at (zero_at s) (length s) j z (omega arith))) few) }

pub returns : goal.returns
unfolding zeros
returns c =
    let s = c.args.s.now in
    let n = length s in
    let front = sym c.words_zero.ensures ∙ c.if-not-words_zero.false in
    record {
      answer = iff _ _
          (λ y. all_from (zero_at s) n (λ j l. by_test (ltb j (8 * (n / 8)))
          (λ b. all_at (zero_at s) (8 * (n / 8)) j front (ltb-true _ _ b))
          (λ b. eight_zero s (n - 8) (omega arith) (sym c.low_first_at.ensures ∙ eqb-true _ _ y) j (omega (arith, ltb-false j (8 * (n / 8)) b)) (omega arith))))
          (λ z. by_test _ (λ y. y) (λ b. both (all_from (zero_at s) (n - 8 + 8) (λ j l. all_at (zero_at s) n j z (omega arith))) (eight_some s (n - 8) (omega arith) (λ e. eqb-false _ _ b (c.low_first_at.ensures ∙ e)))));
    }
