use Rattle.site.specs.Layout.{name_at}
use Rattle.site.proofs.layout.Rows.name.Goals as goal

pub returns : goal.returns
unfolding name_at
returns c = c.array_in.ensures
