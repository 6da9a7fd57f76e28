use Rattle.site.specs.Rules.{apart}
use Rattle.rows.proofs.IndexLaws.{Searching}
use Rattle.rows.specs.Words.{fails}
use Rattle.site.proofs.layout.Partitions.search_all.Given as goal

abbrev pub invariant-loop-i : goal.invariant-loop-i
invariant-loop-i l = Searching (fails (apart l.self.file.now)) l.n l.i
