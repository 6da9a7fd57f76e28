use mathlib.Core.Path.{sym, ◌∙◌}
use borrow.Author.Tests.{eq-eqb, ne_eqb}
use lib.ListN.{replicate-append-replicate}
use Rattle.station.specs.Asks.{fresh_state, fresh_refusal}
use Rattle.station.proofs.fresh.Goals as goal

pub returns-then-state-ne-BYTES : goal.returns-then-state-ne-BYTES
unfolding fresh_refusal
returns-then-state-ne-BYTES c = let other = ne_eqb _ _ c.if-state-ne-BYTES.true in record { answer = rw other; left = rw other }

pub returns : goal.returns
unfolding fresh_state fresh_refusal
returns c = let sized = c.if-state-ne-BYTES.false in
    record {
      answer = rw (eq-eqb _ _ sized);
      left = rw (eq-eqb _ _ sized) (c.fill.ensures.after (λ y e. e) ∙ rw sized (sym (replicate-append-replicate 896 15 0)));
    }
