use Prim.Native.Nat.{◌+◌}
use lib.ListN.{drop, length-drop}
use lib.Seq.{take_all}
use borrow.Author.Tests.{lt-leb}
use native.Mathlib.Omega.{arith}
use mathlib.Core.Path.{sym, ap, ◌∙◌}
use Rattle.rows.specs.Words.{zeros}
use Rattle.station.proofs.PlaceLaws.{place_by_rest, place_too_long}
use Rattle.station.proofs.rules.place_good.Goals as goal

pub returns-then-len-le13 : goal.returns-then-len-le13
returns-then-len-le13 c = let r = c.args.r.now in
    let short = rw c.from-len.ensures at c.if-len-le13.true in
    c.is_zero.ensures.answer ∙ ap zeros (take_all _ (drop (1 + c.from-len.result) r) (omega (arith, length-drop (1 + c.from-len.result) r))) ∙ rw c.from-len.ensures (place_by_rest r c.requires short)

pub returns-else-len-le13 : goal.returns-else-len-le13
returns-else-len-le13 c = let long = rw c.from-len.ensures at c.if-len-le13.false in
    rw (lt-leb _ 13 c.if-len-le13.false) (sym (place_too_long c.args.r.now long))
