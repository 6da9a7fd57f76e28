use Rattle.hinet.proofs.StationLaws.{stepped}
use Rattle.hinet.proofs.station_end.hinet_station_lock.Goals as goal

pub returns : goal.returns
returns c = stepped _ _ _ _ c.pack.ensures (rw c.string_at.ensures at c.ask_lock.ensures)
