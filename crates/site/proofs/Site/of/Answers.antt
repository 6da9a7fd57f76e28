use Rattle.site.proofs.FaultLaws.{checked_good}
use mathlib.Core.Path.{sym}
use Rattle.site.proofs.Site.of.Goals as goal

pub invariant_of-result : goal.invariant_of-result
invariant_of-result c = record { good = checked_good _ (sym c.in_ok-check.ensures.answer) }
