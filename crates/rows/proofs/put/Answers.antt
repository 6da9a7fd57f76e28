use Rattle.rows.specs.Rows.{put}
use lib.ListN.{length}
use native.Mathlib.Nat.{add-sub_cancel_left}
use Rattle.rows.proofs.put.Goals as goal

pub returns : goal.returns
unfolding put
returns c = let a = c.args in
    rw (add-sub_cancel_left a.at (length a.p.now), c.copy_from_slice.ensures.after)
