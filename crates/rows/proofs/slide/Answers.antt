use Rattle.rows.proofs.RowLaws.{slide_none, slide_more}
use Rattle.rows.specs.Rows.{part, put}
use lib.ListN.{length-set}
use mathlib.Core.Path.{refl, ap, ◌∙◌}
use native.Mathlib.Nat.{le_antisymm}
use native.Mathlib.Omega.{arith}
use Prim.Native.Nat.{ℕ}
use Rattle.rows.proofs.slide.Goals as goal

pub loop-k-init : goal.loop-k-init
loop-k-init c = (omega arith, slide_none _ _ _, refl)

pub loop-k-preserved : goal.loop-k-preserved
loop-k-preserved c =
    let a = c.args in
    (omega arith, rw c.loop-k.invariant.1 (slide_more a.s.now a.from a.to c.loop-k.k c.requires.0 (omega (arith, c.requires.1, c.loop-k-test.true))), simp length-set c.loop-k.invariant.2)

pub shape_of-s : goal.shape_of-s
shape_of-s c = c.loop-k.invariant.2

pub returns : goal.returns
returns c =
    let a = c.args in
    c.loop-k.invariant.1 ∙ ap (λ (k : ℕ). put a.s.now a.to (part a.s.now a.from k)) (le_antisymm c.loop-k.invariant.0 c.loop-k-test.false)
