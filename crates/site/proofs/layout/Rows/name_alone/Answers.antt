use Rattle.site.specs.Rules.{name_alone}
use Rattle.site.proofs.NameLaws.{none_found}
use mathlib.Core.Path.{sym}
use Rattle.site.proofs.layout.Rows.name_alone.Goals as goal

pub returns-then-not-seen : goal.returns-then-not-seen
returns-then-not-seen c = sym (c.requires.i_value c.if-not-seen.true)

pub returns : goal.returns
unfolding name_alone
returns c = none_found _ _ c.earlier_name.result c.is_none.result c.earlier_name.ensures c.is_none.ensures
