use Rattle.rows.proofs.RowLaws.{row_end, copies_none, copies_more}
use Rattle.rows.specs.Rows.{over, copies}
use lib.ListN.{length}
use mathlib.Core.Path.{refl, ap, ◌∙◌}
use native.Mathlib.Nat.{le_antisymm}
use native.Mathlib.Omega.{arith}
use Prim.Native.Nat.{ℕ}
use Rattle.rows.proofs.fill.Goals as goal

pub loop-i-init : goal.loop-i-init
loop-i-init c = (omega arith, copies_none _ _, refl)

pub overflow_mul-r : goal.overflow_mul-r
overflow_mul-r c = omega (arith, row_end (length c.args.r.now) c.loop-i-test.true)

pub put-requires : goal.put-requires
put-requires c = omega (arith, row_end (length c.args.r.now) c.loop-i-test.true)

pub loop-i-preserved : goal.loop-i-preserved
loop-i-preserved c = let a = c.args in
    (omega arith, c.put.ensures ∙ rw c.loop-i.invariant.1 (copies_more a.s.now a.r.now _ a.n c.loop-i-test.true c.requires), omega (arith, c.put.auto.s))

pub shape_of-s : goal.shape_of-s
shape_of-s c = c.loop-i.invariant.2

pub returns : goal.returns
returns c = let a = c.args in
    c.loop-i.invariant.1 ∙ ap (λ (k : ℕ). over (copies k a.r.now) a.s.now) (le_antisymm c.loop-i.invariant.0 c.loop-i-test.false)
