use mathlib.Core.Path.{refl, sym, ◌∙◌}
use Rattle.framing.proofs.TakeLaws.{byte_bit, dropped_bit, kept_bit}
use Rattle.framing.proofs.zeros.bit_taken.Goals as goal
use Rattle.framing.proofs.zeros.bit_taken.Goals.{then-bit, else-bit}

pub returns-then-ones-eq5 : goal.returns-then-ones-eq5
returns-then-ones-eq5 c = dropped_bit _ c.args.bit _ c.if-ones-eq5.true refl refl refl (c.from.ensures ∙ byte_bit _)

pub returns : goal.returns
returns c = kept_bit _ c.args.bit _ c.if-ones-eq5.false (c.from-2.ensures ∙ byte_bit _) refl
    (elim c.if-bit.branch [ then-bit w ↦ w.result-is ∙ sym (rw w.if-bit.true) | else-bit w ↦ w.result-is ∙ sym (rw w.if-bit.false) ]) refl
