use native.Mathlib.Omega.{arith}
use lib.ListN.{length}
use Rattle.station.proofs.Cases.{sent_short}
use Rattle.hinet.proofs.station_end.hinet_station_frame.Goals as goal

pub overflow_cast-length : goal.overflow_cast-length
overflow_cast-length c = omega (arith, sent_short c.args.station.now (length c.args.buffer.now), c.in-Ok.ensures)
