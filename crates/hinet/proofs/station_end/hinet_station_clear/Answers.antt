use Rattle.hinet.proofs.StationLaws.{stepped}
use Rattle.hinet.proofs.station_end.hinet_station_clear.Goals as goal

pub returns : goal.returns
returns c = stepped _ _ _ _ c.pack.ensures c.ask_clear.ensures
