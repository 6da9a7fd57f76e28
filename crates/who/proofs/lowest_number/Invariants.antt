use Rattle.who.specs.Logins.{record_count, free_number}
use Rattle.rows.proofs.IndexLaws.{Searching}
use Rattle.who.proofs.lowest_number.Given as goal

abbrev pub invariant-loop-n : goal.invariant-loop-n
invariant-loop-n l = Searching (free_number l.records) (record_count l.records) l.n
