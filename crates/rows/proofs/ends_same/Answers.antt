use Rattle.rows.proofs.BoolLaws.{refuted, iff}
use Rattle.rows.proofs.BuildLaws.{same_is}
use Rattle.rows.proofs.NumberLaws.{ends_low}
use Rattle.rows.specs.Numbers.{low_first}
use Rattle.rows.specs.Rows.{part}
use borrow.Author.Tests.{eqb-true, eq-eqb}
use lib.ListN.{length}
use mathlib.Core.List.{List}
use mathlib.Core.Path.{sym, ap, ◌∙◌}
use Prim.Native.Nat.{ℕ, ◌-◌}
use Rattle.rows.proofs.ends_same.Goals as goal

pub returns-then-low_first_at : goal.returns-then-low_first_at
returns-then-low_first_at c =
    let a = c.args.a.now in
    let b = c.args.b.now in
    refuted _ (λ h. c.if-low_first_at.true (c.low_first_at.ensures ∙ ap (λ (l : List ℕ). low_first (part l 0 8)) (same_is a b h) ∙ sym c.low_first_at-2.ensures))

pub returns : goal.returns
returns c =
    let a = c.args.a.now in
    let b = c.args.b.now in
    let last = length a - 8 in
    iff _ _
    (λ y. ends_low a b (λ i. (c.shared_slice_known-1.given i).fits) (λ i. (c.shared_slice_known-2-1.given i).fits) (sym c.requires.2) c.requires.0 c.requires.1
    (sym c.low_first_at.ensures ∙ c.if-low_first_at.false ∙ c.low_first_at-2.ensures)
    (sym c.low_first_at-3.ensures ∙ eqb-true _ _ y ∙ c.low_first_at-4.ensures))
    (λ h. eq-eqb _ _ (c.low_first_at-3.ensures ∙ ap (λ (l : List ℕ). low_first (part l last 8)) (same_is a b h) ∙ sym c.low_first_at-4.ensures))
