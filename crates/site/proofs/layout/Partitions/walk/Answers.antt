use Rattle.site.specs.Layout.{partition_row}
use Rattle.site.specs.Rules.{ranged}
use Rattle.site.specs.Shortcuts.{past, passing}
use Rattle.site.proofs.EndLaws.{walk_starts, walk_on, walk_ends}
use Rattle.rows.proofs.BoolLaws.{both}
use lib.ListN.{get_or}
use mathlib.Core.Bool.{true}
use mathlib.Core.Path.{◌≡◌, refl, sym, ap, ◌∙◌}
use native.Mathlib.Omega.{arith}
use Prim.Native.Nat.{ℕ}
use Rattle.site.proofs.layout.Partitions.walk.Goals as goal

pub loop-k-init : goal.loop-k-init
loop-k-init c = (omega arith, walk_starts _ _ _ refl)

pub row-row-requires : goal.row-row-requires
row-row-requires c =
    omega (arith, c.from.ensures, c.requires.by_index.1 c.loop-k.k (omega arith))

pub pass-requires : goal.pass-requires
pass-requires c =
    ap ranged c.row-row.ensures ∙ c.requires.by_index.0 c.from.result (omega (arith, c.from.ensures, c.requires.by_index.1 c.loop-k.k (omega arith)))

pub returns-then-not-pass : goal.returns-then-not-pass
returns-then-not-pass c = λ lie. both lie refl

pub loop-k-preserved : goal.loop-k-preserved
loop-k-preserved c =
    let file = c.args.self.now.file.now in
    let at = get_or c.args.order.now c.loop-k.k 0 in
    let is : c.row-row.result ≡ partition_row file at = c.row-row.ensures ∙ ap (λ (i : ℕ). partition_row file i) c.from.ensures in
    let begins : past c.loop-k.ends (partition_row file at) ≡ true = sym (ap (past c.loop-k.ends) is) ∙ sym c.pass.ensures.0 ∙ c.if-not-pass.false in
    (omega arith, walk_on file _ c.loop-k.ends c.loop-k.invariant.1 begins (c.requires.by_index.0 at (c.requires.by_index.1 c.loop-k.k (omega arith))) (c.pass.ensures.1 ∙ ap (passing c.loop-k.ends) is))

pub returns : goal.returns
returns c = λ y.
    let n = c.args.n in
    walk_ends c.args.self.now.file.now _ n (λ k l. c.requires.by_index.1 k (omega arith)) (λ i j l m. c.loop-k.invariant.1.clear i j l (omega arith))
