use Rattle.site.specs.Rules.{number_alone}
use Rattle.site.specs.Shortcuts.{number_hash}
use Rattle.rows.proofs.IndexLaws.{Searching}
use Rattle.rows.specs.Words.{fails}
use Rattle.rows.proofs.MarkLaws.{Marked}
use Rattle.site.proofs.layout.Partitions.first_number_repeated.Given as goal

abbrev pub invariant-loop-i : goal.invariant-loop-i
invariant-loop-i l = Searching (fails (number_alone l.self.file.now)) l.n l.i × Marked 8 (number_hash l.self.file.now) l.map l.i
