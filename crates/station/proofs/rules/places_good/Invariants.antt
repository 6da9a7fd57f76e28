use Rattle.rows.proofs.IndexLaws.{Passing}
use Rattle.station.specs.State.{place_count}
use Rattle.station.specs.Good.{good_at}
use Rattle.station.proofs.rules.places_good.Given as goal

abbrev pub invariant-loop-i : goal.invariant-loop-i
invariant-loop-i l = Passing (good_at l.list) (place_count l.list) l.i
