use Rattle.hinet.proofs.StationLaws.{reply_taken}
use Rattle.hinet.proofs.station_end.hinet_station_reply.Goals as goal

pub returns : goal.returns
returns c = reply_taken _ _ _ c.pack.ensures (rw c.byte_of.ensures at c.take_reply.ensures)
