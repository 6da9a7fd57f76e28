use Rattle.rows.proofs.IndexLaws.{Passing}
use Rattle.rows.specs.Words.{zero_at}
use lib.ListN.{length}
use Rattle.rows.proofs.bytes_zero.Given as goal

abbrev pub invariant-loop-b : goal.invariant-loop-b
invariant-loop-b l = Passing (zero_at l.s) (length l.s) l.b-index
