use Rattle.boot.specs.Systems.{fits_exactly}
use Rattle.rows.proofs.IndexLaws.{Searching}
use Rattle.boot.proofs.systems.Systems.find_exact.Given as goal

abbrev pub invariant-loop-i : goal.invariant-loop-i
invariant-loop-i l = Searching (fits_exactly l.self.table.now l.self.directory.now l.self.wanted l.self.product l.options) l.n l.i
