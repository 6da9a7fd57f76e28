use Rattle.boot.specs.Tables.{machine_rows, machine_of}
use Rattle.boot.proofs.Tables.find_machine.Goals as goal

pub returns : goal.returns
unfolding machine_rows machine_of
returns c = c.find.ensures
