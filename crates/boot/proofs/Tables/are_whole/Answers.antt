use Rattle.boot.specs.Tables.{all_whole}
use mathlib.Core.Path.{sym, ◌∙◌}
use Rattle.boot.proofs.Tables.are_whole.Goals as goal

pub returns-then-not-is_whole : goal.returns-then-not-is_whole
unfolding all_whole
returns-then-not-is_whole c =
    rw (sym c.is_whole.ensures ∙ c.if-not-is_whole.true)

pub returns-then-not-is_whole-2 : goal.returns-then-not-is_whole-2
unfolding all_whole
returns-then-not-is_whole-2 c =
    rw (sym c.is_whole.ensures ∙ c.if-not-is_whole.false, sym c.is_whole-2.ensures ∙ c.if-not-is_whole-2.true)

pub returns-then-not-is_whole-3 : goal.returns-then-not-is_whole-3
unfolding all_whole
returns-then-not-is_whole-3 c =
    rw (sym c.is_whole.ensures ∙ c.if-not-is_whole.false, sym c.is_whole-2.ensures ∙ c.if-not-is_whole-2.false, sym c.is_whole-3.ensures ∙ c.if-not-is_whole-3.true)

pub returns-then-not-is_whole-4 : goal.returns-then-not-is_whole-4
unfolding all_whole
returns-then-not-is_whole-4 c =
    rw (sym c.is_whole.ensures ∙ c.if-not-is_whole.false, sym c.is_whole-2.ensures ∙ c.if-not-is_whole-2.false, sym c.is_whole-3.ensures ∙ c.if-not-is_whole-3.false, sym c.is_whole-4.ensures ∙ c.if-not-is_whole-4.true)

pub returns-then-not-is_whole-5 : goal.returns-then-not-is_whole-5
unfolding all_whole
returns-then-not-is_whole-5 c =
    rw (sym c.is_whole.ensures ∙ c.if-not-is_whole.false, sym c.is_whole-2.ensures ∙ c.if-not-is_whole-2.false, sym c.is_whole-3.ensures ∙ c.if-not-is_whole-3.false, sym c.is_whole-4.ensures ∙ c.if-not-is_whole-4.false, sym c.is_whole-5.ensures ∙ c.if-not-is_whole-5.true)

pub returns : goal.returns
unfolding all_whole
returns c =
    rw (sym c.is_whole.ensures ∙ c.if-not-is_whole.false, sym c.is_whole-2.ensures ∙ c.if-not-is_whole-2.false, sym c.is_whole-3.ensures ∙ c.if-not-is_whole-3.false, sym c.is_whole-4.ensures ∙ c.if-not-is_whole-4.false, sym c.is_whole-5.ensures ∙ c.if-not-is_whole-5.false) c.is_whole-6.ensures
