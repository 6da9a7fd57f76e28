use mathlib.Core.Path.{◌≡◌, sym, ◌∙◌}
use borrow.Author.Tests.{eq-eqb, ne_eqb}
use borrow.Author.Rules.{rules}
use lib.ListN.{length}
use Rattle.station.proofs.StateLaws.{parts_code}
use Rattle.station.specs.Asks.{waits, ask_refusal}
use Rattle.station.proofs.may_ask.Goals as goal

pub returns-then-not-parts_good : goal.returns-then-not-parts_good
unfolding ask_refusal
returns-then-not-parts_good c = rw (sym c.parts_good.ensures ∙ c.if-not-parts_good.true)

pub returns-then-wait-ne0 : goal.returns-then-wait-ne0
unfolding ask_refusal waits
returns-then-wait-ne0 c =
    let long : length c.args.wait.now ≡ 15 = search rules in
    rw (sym c.parts_good.ensures ∙ c.if-not-parts_good.false, ne_eqb _ _ (λ e. c.if-wait-ne0.true (sym (parts_code c.args.list.now c.args.wait.now long) ∙ e)))

pub returns : goal.returns
unfolding ask_refusal waits
returns c =
    let long : length c.args.wait.now ≡ 15 = search rules in
    rw (sym c.parts_good.ensures ∙ c.if-not-parts_good.false, eq-eqb _ _ (parts_code c.args.list.now c.args.wait.now long ∙ c.if-wait-ne0.false))
