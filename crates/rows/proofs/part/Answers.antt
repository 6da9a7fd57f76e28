use Rattle.rows.specs.Rows.{part}
use native.Mathlib.Nat.{add-sub_cancel_left}
use Rattle.rows.proofs.part.Goals as goal

pub returns : goal.returns
unfolding part
returns c = rw add-sub_cancel_left
