use Rattle.boot.specs.Systems.{first_name}
use Rattle.boot.proofs.systems.Systems.first_file.Goals as goal

pub returns : goal.returns
unfolding first_name
returns c = rw c.field.ensures at c.find.ensures
