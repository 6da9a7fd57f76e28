use Rattle.rows.specs.Rows.{begins}
use Rattle.rows.proofs.IndexLaws.{Searching}
use Rattle.rows.proofs.find.Given as goal

abbrev pub invariant-loop-i : goal.invariant-loop-i
invariant-loop-i l = Searching (begins l.w l.table l.bytes) l.n l.i
