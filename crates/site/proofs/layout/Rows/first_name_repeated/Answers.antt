use Rattle.site.proofs.NameLaws.{unseen_alone}
use Rattle.site.specs.Shortcuts.{name_hash}
use Rattle.rows.proofs.RowLaws.{row_end}
use Rattle.rows.proofs.IndexLaws.{search_starts, search_on, search_hit, search_ends, fails_at, holds_at}
use Rattle.rows.proofs.MarkLaws.{mark_starts, mark_adds}
use Rattle.rows.specs.Marks.{marked}
use mathlib.Core.Path.{refl, sym, ap, ◌∙◌}
use Prim.Native.Nat.{◌<◌}
use native.Mathlib.Omega.{arith}
use Rattle.site.proofs.layout.Rows.first_name_repeated.Goals as goal

pub loop-i-init : goal.loop-i-init
loop-i-init c = (search_starts _ _, mark_starts _ _ _ refl)

pub slice_bounds-mark-end : goal.slice_bounds-mark-end
slice_bounds-mark-end c = sym c.loop-i.invariant.1.0

pub mark-seen-requires : goal.mark-seen-requires
mark-seen-requires c = omega (arith, c.name_hash.ensures.1, c.loop-i.invariant.1.0)

pub name_alone-requires : goal.name_alone-requires
name_alone-requires c =
    let s = c.args.self.now in
    let map = c.loop-i.map in
    let below : c.loop-i.i < s.count = omega arith in
    let here = c.name_hash.ensures.0 ∙ ap name_hash c.name.ensures in
    record {
      i_in_bounds = omega arith;
      i_value = λ new. unseen_alone 32 s.file.now s.from s.width map c.loop-i.i s.bytes (omega (arith, row_end s.width below)) (omega arith) c.loop-i.invariant.1 (ap (marked map) (sym here) ∙ sym c.mark-seen.ensures.0 ∙ new);
    }

pub returns-then-not-name_alone : goal.returns-then-not-name_alone
returns-then-not-name_alone c =
    search_hit _ _ c.loop-i.invariant.0 c.loop-i-test.true (fails_at _ (sym c.name_alone.ensures ∙ c.if-not-name_alone.true))

pub loop-i-preserved : goal.loop-i-preserved
loop-i-preserved c = (
  search_on _ _ c.loop-i.invariant.0 c.loop-i-test.true (holds_at _ (sym c.name_alone.ensures ∙ c.if-not-name_alone.false)),
  mark_adds _ _ _ c.loop-i.invariant.1 (c.name_hash.ensures.0 ∙ ap name_hash c.name.ensures) (omega (arith, c.name_hash.ensures.1)) c.mark-seen.ensures.1,
)

pub returns : goal.returns
returns c = search_ends _ _ c.loop-i.invariant.0 c.loop-i-test.false
