use Rattle.boot.specs.Lent.{tables_of}
use Rattle.boot.proofs.AnswerLaws.{not_whole, too_short, answered}
use Rattle.boot.proofs.Theorems.{block_whole}
use mathlib.Core.Path.{sym, ◌∙◌}
use Rattle.boot.proofs.boot.Goals as goal

pub returns-then-not-are_whole : goal.returns-then-not-are_whole
returns-then-not-are_whole c = not_whole (tables_of c.args.tables.now) _ _ _ _ (sym c.are_whole.ensures ∙ c.if-not-are_whole.true)

pub returns-in_default : goal.returns-in_default
returns-in_default c = too_short (tables_of c.args.tables.now) _ _ _ _ (sym c.are_whole.ensures ∙ c.if-not-are_whole.false) c.in_default.ensures.cases

pub returns : goal.returns
returns c =
    let chunk = c.in-Some.ensures.cases in
    answered (tables_of c.args.tables.now) _ _ _ _ (sym c.are_whole.ensures ∙ c.if-not-are_whole.false) chunk.enough (block_whole _ _ _ _) c.answer.result (rw chunk.same at c.answer.ensures)
