use Rattle.who.specs.Good.{numbers}
use Rattle.who.proofs.RowLaws.{rules_at}
use Rattle.rows.proofs.IndexLaws.{Passing}
use Rattle.who.proofs.is_good.Given as goal

abbrev pub invariant-loop-n : goal.invariant-loop-n
invariant-loop-n l = Passing (rules_at l.records) numbers l.n
