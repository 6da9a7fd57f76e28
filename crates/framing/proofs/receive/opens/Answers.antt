use native.Mathlib.Omega.{arith}
use mathlib.Core.Path.{sym, ◌∙◌}
use borrow.Author.Tests.{leb-true, leb-false}
use Rattle.framing.proofs.ScanLaws.{opens_past, opens_short, opens_by}
use Rattle.framing.proofs.receive.opens.Goals as goal
use Rattle.framing.proofs.receive.opens.Goals.{then-n-ge8, else-n-ge8}

pub returns-then-div_ceil-s : goal.returns-then-div_ceil-s
returns-then-div_ceil-s c = elim c.if-n-ge8.branch [
  | then-n-ge8 w ↦ let room = leb-true _ _ (sym w.value-is ∙ c.if-div_ceil-s.true) in
      opens_by c.args.s.now c.args.n (omega (arith, room, w.div_ceil.ensures)) w.if-n-ge8.true (c.type_inv.s 0).fits
  | else-n-ge8 w ↦ absurd (omega (arith, leb-true _ _ (sym w.value-is ∙ c.if-div_ceil-s.true), w.if-n-ge8.false))
]

pub returns-else-div_ceil-s : goal.returns-else-div_ceil-s
returns-else-div_ceil-s c = elim c.if-n-ge8.branch [
  | then-n-ge8 w ↦ let past = leb-false _ _ (sym w.value-is ∙ c.if-div_ceil-s.false) in
      c.if-div_ceil-s.false ∙ opens_past c.args.s.now c.args.n (omega (arith, past, w.div_ceil.ensures))
  | else-n-ge8 w ↦ c.if-div_ceil-s.false ∙ opens_short _ _ w.if-n-ge8.false
]
