use Rattle.std.specs.Prelude.{is_ok}
use Rattle.site.proofs.FaultLaws.{checked_ok}
use mathlib.Core.Path.{ap, ◌∙◌}
use Rattle.site.proofs.is_good.Goals as goal

pub returns : goal.returns
returns c = record { answer = c.is_ok.ensures.value ∙ ap is_ok c.check.ensures.answer ∙ checked_ok _ }
