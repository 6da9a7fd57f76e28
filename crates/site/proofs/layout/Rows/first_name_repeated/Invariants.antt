use Rattle.site.specs.Layout.{name_at}
use Rattle.site.specs.Rules.{name_alone}
use Rattle.site.specs.Shortcuts.{name_hash}
use Rattle.rows.proofs.IndexLaws.{Searching}
use Rattle.rows.specs.Words.{fails}
use Rattle.rows.proofs.MarkLaws.{Marked}
use Rattle.site.proofs.layout.Rows.first_name_repeated.Given as goal

abbrev pub invariant-loop-i : goal.invariant-loop-i
invariant-loop-i l = Searching (fails (name_alone l.self.file.now l.self.from l.self.width)) l.n l.i × Marked 32 (λ j. name_hash (name_at l.self.file.now l.self.from l.self.width j)) l.map l.i
