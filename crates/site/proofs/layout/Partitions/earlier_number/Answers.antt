use Rattle.site.proofs.layout.Partitions.earlier_number.Goals as goal

pub returns : goal.returns
returns c = rw (← c.row-row.ensures) c.find_number.ensures
