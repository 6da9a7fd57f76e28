use Rattle.site.proofs.layout.Rows.earlier_name.Goals as goal

pub returns : goal.returns
returns c = rw (← c.name.ensures) c.find_name.ensures
