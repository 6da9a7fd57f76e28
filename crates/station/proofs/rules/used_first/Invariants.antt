use Rattle.station.specs.Good.{in_front}
use Rattle.station.specs.State.{place_count, listed}
use Rattle.rows.proofs.IndexLaws.{Passing}
use Prim.Native.Nat.{◌≤◌}
use Rattle.station.proofs.rules.used_first.Given as goal

abbrev pub invariant-loop-i : goal.invariant-loop-i
invariant-loop-i l = Passing (in_front l.list) (place_count l.list) l.i × (listed l.list ≤ l.i)
