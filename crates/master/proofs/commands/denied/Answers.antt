use Rattle.master.specs.Answers.{told}
use mathlib.Core.Path.{refl}
use Rattle.master.proofs.commands.denied.Goals as goal

pub returns : goal.returns
unfolding told
returns c = refl
