use Rattle.rows.proofs.IndexLaws.{Passing}
use Rattle.rows.specs.Words.{same_at}
use lib.ListN.{length}
use Rattle.rows.proofs.bytes_same.Given as goal

abbrev pub invariant-loop-k : goal.invariant-loop-k
invariant-loop-k l = Passing (same_at l.a l.b) (length l.a) l.k
