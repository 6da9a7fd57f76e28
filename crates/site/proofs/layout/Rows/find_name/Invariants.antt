use Rattle.site.specs.Rules.{named_at}
use Rattle.rows.proofs.IndexLaws.{Searching}
use Rattle.site.proofs.layout.Rows.find_name.Given as goal

abbrev pub invariant-loop-i : goal.invariant-loop-i
invariant-loop-i l = Searching (named_at l.self.file.now l.self.from l.self.width l.name) l.n l.i
