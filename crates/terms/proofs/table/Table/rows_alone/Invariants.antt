use Rattle.terms.specs.Shortcuts.{string_hash}
use Rattle.terms.specs.Tables.{row_string, row_alone}
use Rattle.rows.proofs.IndexLaws.{Passing}
use Rattle.rows.proofs.MarkLaws.{Marked}
use Rattle.terms.proofs.table.Table.rows_alone.Given as goal

abbrev pub invariant-loop-i : goal.invariant-loop-i
invariant-loop-i l = Passing (row_alone l.self.shape l.self.bytes.now) l.self.count l.i × Marked 32 (λ j. string_hash (row_string l.self.shape l.self.bytes.now j)) l.map l.i
