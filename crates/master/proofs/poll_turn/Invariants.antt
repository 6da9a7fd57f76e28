-- What the loop keeps: the stations before n are those of the records, and the others as they were.
use Rattle.std.proofs.Common.{◌≡◌, ◌++◌, ℕ, drop}
use Rattle.rows.specs.Rows.{row}
use Rattle.rows.specs.Words.{build}
use Rattle.who.specs.Records.{station_of}
use Rattle.master.proofs.poll_turn.Given as goal

abbrev pub invariant-loop-n : goal.invariant-loop-n
invariant-loop-n l = l.row ≡ build (λ (k : ℕ). station_of (row 18 l.records k)) l.n ++ drop l.n l.initial.row
