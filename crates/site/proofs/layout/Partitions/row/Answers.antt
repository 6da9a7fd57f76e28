use Rattle.site.specs.Layout.{row_at}
use Rattle.site.proofs.layout.Partitions.row.Goals as goal

pub returns : goal.returns
unfolding row_at
returns c = rw (c.low_first_at.ensures, c.args.self.now.begins)
