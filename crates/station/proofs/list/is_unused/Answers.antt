use Rattle.station.specs.State.{places}
use Rattle.terms.proofs.TableLaws.{free_at_lem}
use Rattle.station.proofs.list.is_unused.Goals as goal

pub returns : goal.returns
returns c = let a = c.args in free_at_lem places a.list.now a.i
