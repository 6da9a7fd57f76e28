use mathlib.Core.Path.{refl, sym, ◌∙◌}
use Rattle.params.specs.Answers.{size_refusal}
use Rattle.params.proofs.parameters.Goals as goal

pub returns-then-not-is_size : goal.returns-then-not-is_size
unfolding size_refusal
returns-then-not-is_size g c = rw (sym c.is_size.ensures ∙ c.if-not-is_size.true) refl

pub returns : goal.returns
unfolding size_refusal
returns g c = rw (sym c.is_size.ensures ∙ c.if-not-is_size.false) (refl, c.of_size.ensures)
