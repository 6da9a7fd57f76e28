use Rattle.terms.specs.Tables.{row_free}
use Rattle.rows.proofs.IndexLaws.{Searching}
use Rattle.terms.proofs.table.Table.first_free.Given as goal

abbrev pub invariant-loop-i : goal.invariant-loop-i
invariant-loop-i l = Searching (row_free l.self.shape l.self.bytes.now) l.self.count l.i
