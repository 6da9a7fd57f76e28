use Rattle.site.specs.Rules.{sound}
use Rattle.rows.proofs.IndexLaws.{Searching}
use Rattle.rows.specs.Words.{fails}
use Rattle.site.proofs.layout.Partitions.first_unsound.Given as goal

abbrev pub invariant-loop-i : goal.invariant-loop-i
invariant-loop-i l = Searching (fails (sound l.self.file.now)) l.n l.i
