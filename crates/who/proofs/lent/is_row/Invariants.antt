use Rattle.who.specs.Records.{flagged}
use Rattle.rows.specs.Rows.{row}
use Rattle.who.specs.Good.{numbers}
use Rattle.rows.proofs.IndexLaws.{Passing}
use Rattle.who.proofs.lent.is_row.Given as goal

abbrev pub invariant-loop-n : goal.invariant-loop-n
invariant-loop-n l = Passing (λ k. flagged (row 18 l.records k)) numbers l.n
