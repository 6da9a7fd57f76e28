use Rattle.terms.specs.Shortcuts.{row_has_key}
use Rattle.rows.proofs.IndexLaws.{Searching}
use Rattle.terms.proofs.table.Table.find_key.Given as goal

abbrev pub invariant-loop-i : goal.invariant-loop-i
invariant-loop-i l = Searching (row_has_key l.self.shape l.self.bytes.now l.len l.own) l.n l.i
