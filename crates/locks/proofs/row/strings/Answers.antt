use Rattle.terms.proofs.TableLaws.{one_shape}
use Rattle.locks.proofs.row.strings.Goals as goal

pub returns-clause-shape : goal.returns-clause-shape
returns-clause-shape c = one_shape _ _ _ _ _
