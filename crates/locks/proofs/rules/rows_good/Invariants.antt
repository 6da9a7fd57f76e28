use Rattle.locks.specs.Good.{sound_at}
use Rattle.rows.proofs.IndexLaws.{Passing}
use Rattle.rows.specs.Numbers.{bit_at}
use Rattle.locks.proofs.rules.rows_good.Given as goal

abbrev pub invariant-loop-i : goal.invariant-loop-i
invariant-loop-i l = Passing (sound_at (bit_at l.word) l.table) l.n l.i
