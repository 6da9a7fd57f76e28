use mathlib.Core.Path.{refl}
use native.Mathlib.Omega.{arith}
use Rattle.params.proofs.TableLaws.{sized_is}
use Rattle.params.proofs.row_of.Goals as goal

pub overflow_sub-result : goal.overflow_sub-result
overflow_sub-result c = (sized_is _ c.requires).0

pub returns : goal.returns
returns c = (refl, omega (arith, sized_is _ c.requires))
