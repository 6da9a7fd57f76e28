use native.Mathlib.Omega.{arith}
use Rattle.boot.proofs.ChoiceLaws.{smallest_found, smallest_missed}
use Rattle.boot.proofs.systems.Systems.choose_smallest.Goals as goal

pub returns-in-Some : goal.returns-in-Some
returns-in-Some c = (rw c.load_list.ensures.0 (smallest_found _ _ _ _ _ c.in-Some.ensures), c.load_list.ensures.1)

pub returns-in-None : goal.returns-in-None
returns-in-None c = (smallest_missed _ _ _ _ _ c.in-None.ensures, omega arith)
