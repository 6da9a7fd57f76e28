use Rattle.site.specs.Found.{index_of_name}
use Rattle.site.proofs.Site.partition_named.Goals as goal

pub returns : goal.returns
unfolding index_of_name
returns c =
    let p = c.partitions-partitions.result in
    let r = c.rows.ensures in
    rw (r.0, r.1, r.2, p.begins, p.counted, c.partitions-partitions.ensures) at c.find_name.ensures
