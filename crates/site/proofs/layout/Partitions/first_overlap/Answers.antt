use Rattle.rows.proofs.IndexLaws.{all_passes}
use Rattle.site.proofs.layout.Partitions.first_overlap.Goals as goal

pub returns-then-walk : goal.returns-then-walk
returns-then-walk c = all_passes _ _ (c.walk.ensures c.if-walk.true)
