use Rattle.rows.specs.Marks.{hash}
use mathlib.Core.Path.{refl}
use native.Mathlib.Omega.{arith}
use Rattle.rows.proofs.marks.hash.Goals as goal

pub returns : goal.returns
unfolding hash
returns c = (refl, omega arith)
