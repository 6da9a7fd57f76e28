use Rattle.site.specs.Rules.{partition_numbered}
use Rattle.rows.proofs.IndexLaws.{Searching}
use Rattle.site.proofs.layout.Partitions.find_number.Given as goal

abbrev pub invariant-loop-i : goal.invariant-loop-i
invariant-loop-i l = Searching (partition_numbered l.self.file.now l.volume l.partition) l.n l.i
