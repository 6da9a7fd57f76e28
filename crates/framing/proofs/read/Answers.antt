use Rattle.framing.proofs.ReadLaws.{read_refused, read_13, read_data}
use borrow.Author.Rules.{rules}
use Rattle.framing.proofs.read.Goals as goal

pub returns-in_err-content : goal.returns-in_err-content
returns-in_err-content c =
    let a = c.args in
    let refused = read_refused a.bits.now a.count a.«data».now c.in_err-content.field-0.0 c.in_err-content.ensures in search rules

pub returns-then-data-content : goal.returns-then-data-content
returns-then-data-content c = read_13 _ _ _ _ c.in_ok-content.ensures _ c.if-data-content.true

pub returns : goal.returns
returns c = let got = c.deliver-user.ensures in read_data _ _ _ _ c.in_ok-content.ensures _ c.if-data-content.false _ _ got.0 got.1
