use Rattle.terms.proofs.TableLaws.{one_shape}
use Rattle.station.proofs.list.strings.Goals as goal

pub returns-clause-shape : goal.returns-clause-shape
returns-clause-shape c = one_shape _ _ _ _ _
