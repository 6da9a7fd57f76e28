use Rattle.station.proofs.StateLaws.{too_short, parts_make}
use Rattle.station.proofs.is_good.Goals as goal

pub returns-in-Some : goal.returns-in-Some
returns-in-Some c = let e = c.in-Some.ensures.cases in record { answer = rw (parts_make _ e.0 e.1) at c.parts_good.ensures }

pub returns-in-None : goal.returns-in-None
returns-in-None c = let e = c.in-None in record { answer = rw (too_short _ c.in-None.ensures.cases) }
