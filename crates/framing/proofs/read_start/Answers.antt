use native.Mathlib.Omega.{arith}
use Rattle.framing.proofs.ReadLaws.{start_refused, read_start}
use borrow.Author.Rules.{rules}
use Rattle.framing.proofs.read_start.Goals as goal

pub returns-in_err-content : goal.returns-in_err-content
returns-in_err-content c =
    let a = c.args in
    let refused = start_refused a.bits.now a.count a.start.now c.in_err-content.field-0.0 c.in_err-content.ensures in search rules

pub deliver-user-requires : goal.deliver-user-requires
deliver-user-requires c =
    let holds = c.in_ok-content.ensures.1 in
    let least = c.min-held.ensures in
    (omega (arith, holds.long, least), omega (arith, least))

pub returns : goal.returns
returns c = let got = c.deliver-user.ensures in read_start _ _ _ _ c.in_ok-content.ensures _ _ _ _ c.min-held.ensures got.0 got.1
