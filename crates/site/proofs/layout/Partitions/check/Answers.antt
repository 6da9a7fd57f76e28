use Rattle.site.proofs.FaultLaws.{none_faulty, overlap_faulty, number_faulty, name_faulty, range_faulty}
use Rattle.site.specs.declared.Breach.TheVariants.{Range, Name, Number, Overlap}
use Rattle.site.specs.declared.Fault.TheVariants.{InPartition}
use Rattle.std.specs.Prelude.{Err}
use mathlib.Core.Path.{ap, ◌∙◌}
use native.Mathlib.Omega.{arith}
use Prim.Native.Nat.{ℕ}
use Rattle.site.proofs.layout.Partitions.check.Goals as goal

pub returns-then-left : goal.returns-then-left
returns-then-left c = none_faulty _ (omega (arith, c.if-left.true, c.rows_left-left.ensures, c.args.self.now.counted))

pub returns-then-left-2 : goal.returns-then-left-2
returns-then-left-2 c =
    let left = c.rows_left-left.ensures in
    let f = c.args.self.now.file.now in
    c.faulty.ensures ∙ ap (λ (k : ℕ). Err (InPartition k Overlap)) left.4 ∙ overlap_faulty f (omega (arith, c.if-left-2.true, left))

pub returns-then-left-3 : goal.returns-then-left-3
returns-then-left-3 c =
    let left = c.rows_left-left.ensures in
    let f = c.args.self.now.file.now in
    c.faulty-then-left-3.ensures ∙ ap (λ (k : ℕ). Err (InPartition k Number)) left.3 ∙ number_faulty f (omega (arith, c.if-left-2.false, left)) (omega (arith, c.if-left-3.true, left))

pub returns-then-left-4 : goal.returns-then-left-4
returns-then-left-4 c =
    let left = c.rows_left-left.ensures in
    let f = c.args.self.now.file.now in
    c.faulty-then-left-4.ensures ∙ ap (λ (k : ℕ). Err (InPartition k Name)) left.2 ∙ name_faulty f (omega (arith, c.if-left-2.false, left)) (omega (arith, c.if-left-3.false, left)) (omega (arith, c.if-left-4.true, left))

pub returns : goal.returns
returns c =
    let left = c.rows_left-left.ensures in
    let f = c.args.self.now.file.now in
    c.faulty-2.ensures ∙ ap (λ (k : ℕ). Err (InPartition k Range)) left.1 ∙ range_faulty f (omega (arith, c.if-left-2.false, left)) (omega (arith, c.if-left-3.false, left)) (omega (arith, c.if-left-4.false, left)) (omega (arith, c.if-left.false, c.if-left-2.false, c.if-left-3.false, c.if-left-4.false, left, c.args.self.now.counted))
