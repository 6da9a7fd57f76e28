use Prim.Native.Nat.{◌≤◌}
use native.Mathlib.Omega.{arith}
use mathlib.Core.Path.{◌≡◌}
use lib.ListN.{length}
use Rattle.framing.proofs.WriteLaws.{written_17, written_13, written_bits}
use borrow.Author.Rules.{rules}
use Rattle.framing.proofs.write.Goals as goal
use Rattle.framing.proofs.write.Goals.{then-is_empty-via-then-is_empty, then-is_empty-via-else-is_empty+then-data-gt1024}

pub returns-then-is_empty : goal.returns-then-is_empty
returns-then-is_empty c = written_17 _ _ _ λ l g. elim c.then-is_empty.branch [
  | then-is_empty-via-then-is_empty w ↦ let none : length c.args.«data».now ≡ 0 = search rules in omega (arith, none, l)
  | then-is_empty-via-else-is_empty+then-data-gt1024 w ↦ omega (arith, w.if-data-gt1024.true, g)
]

pub returns-then-bits-div_ceil : goal.returns-then-bits-div_ceil
returns-then-bits-div_ceil c =
    let a = c.args in
    let new = c.new-content.ensures in
    let some : 1 ≤ length a.«data».now = search rules in
    written_13 a.user a.«data».now _ some c.if-data-gt1024.false c.count-count.result
    (rw (new.0, new.1) at c.count-count.ensures.0) (omega (arith, c.if-bits-div_ceil.true, c.div_ceil.ensures))

pub returns : goal.returns
returns c =
    let a = c.args in
    let new = c.new-content.ensures in
    let some : 1 ≤ length a.«data».now = search rules in
    written_bits a.user a.«data».now _ _ some c.if-data-gt1024.false c.count-count.result
    (rw (new.0, new.1) at c.count-count.ensures.0) (omega (arith, c.if-bits-div_ceil.false, c.div_ceil.ensures)) (rw (new.0, new.1) at c.put_frame.ensures)
