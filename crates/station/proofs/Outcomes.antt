-- A refused call leaves what it was lent as it was. (That any two outcomes are equal is a law of the crates rows and refusals: each
-- contract is its `Gives` or its `Leaves`, or `LeavesUnless`.)
use Prim.Native.Nat.{ℕ}
use mathlib.Core.Path.{◌≡◌, sym, ◌∙◌}
use mathlib.Core.List.{List}
use lib.ListN.{length}
use borrow.Author.Tests.{ne_eqb}
use Rattle.std.specs.Prelude.{Err}
use Rattle.refusals.specs.declared.Refusal.{Refusal}
use Rattle.refusals.specs.Refusals.{number}
use Rattle.refusals.proofs.OutcomeLaws.{number_never_0}
use Rattle.rows.proofs.BoolLaws.{by_eq}
use Rattle.station.specs.Asks.{send_refusal, sent_of, buffer_after, StepLeaves, Sends}

pub refused_step_untouched : (k : ℕ) (after st : List ℕ) {r : ℕ} {st' : List ℕ} → StepLeaves k after st r st' → (r ≡ 0 → ⊥) → st' ≡ st
refused_step_untouched k after st a ne = a.left ∙ rw (ne_eqb k 0 (λ z. ne (a.answer ∙ z)))

-- and where sending is refused there is no length
pub refused_send_untouched : (st b : List ℕ) {b' : List ℕ} {r : Refusal} → Sends st b (Err r) b' → ((sent_of st (length b)).length ≡ 0) × (b' ≡ b)
unfolding sent_of buffer_after
refused_send_untouched st b {b'} {r} a = by_eq (send_refusal st (length b)) 0
    (λ z. absurd (number_never_0 r (let e : 0 ≡ number r = rw z at a.answer in sym e)))
    (λ n. (rw (ne_eqb (send_refusal st (length b)) 0 n), a.left ∙ rw (ne_eqb (send_refusal st (length b)) 0 n)))
