use Rattle.site.specs.Rules.{number_alone}
use Rattle.site.proofs.NameLaws.{none_found}
use mathlib.Core.Path.{sym}
use Rattle.site.proofs.layout.Partitions.number_alone.Goals as goal

pub returns-then-not-seen : goal.returns-then-not-seen
returns-then-not-seen c = sym (c.requires.i_value (c.if-not-seen.true))

pub returns : goal.returns
unfolding number_alone
returns c = none_found _ _ c.earlier_number.result c.is_none.result c.earlier_number.ensures c.is_none.ensures
