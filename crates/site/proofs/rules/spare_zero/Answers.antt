use Rattle.site.specs.Layout.{spare_at}
use Rattle.rows.specs.Words.{zeros}
use mathlib.Core.Path.{ap, ◌∙◌}
use Rattle.site.proofs.rules.spare_zero.Goals as goal

pub returns : goal.returns
unfolding spare_at
returns c = c.is_zero.ensures.answer ∙ ap zeros c.part.ensures
