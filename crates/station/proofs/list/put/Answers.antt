use Rattle.rows.specs.Rows.{put}
use Rattle.terms.specs.declared.LockString.{LockString}
use Rattle.terms.specs.Strings.{string_bytes}
use mathlib.Core.Path.{ap, ◌∙◌}
use Prim.Native.Nat.{◌*◌}
use Rattle.station.proofs.list.put.Goals as goal

pub returns : goal.returns
returns c =
    let a = c.args in
    c.put_string.ensures.0 ∙ ap (λ (x : LockString). put a.list.now (14 * a.i) (string_bytes x)) c.normal.ensures.answer
