use Rattle.boot.specs.Systems.{fits, system_size}
use Rattle.boot.proofs.ChoiceLaws.{LightestSoFar}
use Rattle.boot.proofs.systems.Systems.find_smallest.Given as goal

abbrev pub invariant-loop-i : goal.invariant-loop-i
invariant-loop-i l =
    LightestSoFar (fits l.self.table.now l.self.directory.now l.self.wanted l.self.product) (system_size l.self.table.now l.self.directory.now) l.n l.i l.best
