use Rattle.site.specs.Rules.{partitions_overlap}
use Rattle.rows.proofs.IndexLaws.{Searching}
use Rattle.site.proofs.layout.Partitions.find_overlap.Given as goal

abbrev pub invariant-loop-j : goal.invariant-loop-j
invariant-loop-j l = Searching (partitions_overlap l.self.file.now l.i) l.i l.j
