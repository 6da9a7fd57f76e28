use Rattle.site.specs.Found.{index_of_number}
use Rattle.site.proofs.Site.partition_numbered.Goals as goal

pub returns : goal.returns
unfolding index_of_number
returns c = rw (c.partitions-partitions.result.counted, c.partitions-partitions.ensures) at c.find_number.ensures
