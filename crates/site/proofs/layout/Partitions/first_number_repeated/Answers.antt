use Rattle.site.proofs.NameLaws.{unseen_number}
use Rattle.rows.proofs.IndexLaws.{search_starts, search_on, search_hit, search_ends, fails_at, holds_at}
use Rattle.rows.proofs.MarkLaws.{mark_starts, mark_adds}
use Rattle.rows.specs.Marks.{marked}
use mathlib.Core.Path.{refl, sym, ap, ◌∙◌}
use native.Mathlib.Omega.{arith}
use Rattle.site.proofs.layout.Partitions.first_number_repeated.Goals as goal

pub loop-i-init : goal.loop-i-init
loop-i-init c = (search_starts _ _, mark_starts _ _ _ refl)

pub slice_bounds-mark-end : goal.slice_bounds-mark-end
slice_bounds-mark-end c = sym c.loop-i.invariant.1.0

pub mark-seen-requires : goal.mark-seen-requires
mark-seen-requires c = omega (arith, c.number_hash.ensures.1, c.loop-i.invariant.1.0)

pub number_alone-requires : goal.number_alone-requires
number_alone-requires c =
    let map = c.loop-i.map in
    record {
      i_in_bounds = omega arith;
      i_value = λ new. unseen_number 8 c.args.self.now.file.now map c.loop-i.i c.loop-i.invariant.1 (ap (marked map) (sym c.number_hash.ensures.0) ∙ sym c.mark-seen.ensures.0 ∙ new);
    }

pub returns-then-not-number_alone : goal.returns-then-not-number_alone
returns-then-not-number_alone c =
    search_hit _ _ c.loop-i.invariant.0 c.loop-i-test.true (fails_at _ (sym c.number_alone.ensures ∙ c.if-not-number_alone.true))

pub loop-i-preserved : goal.loop-i-preserved
loop-i-preserved c = (
  search_on _ _ c.loop-i.invariant.0 c.loop-i-test.true (holds_at _ (sym c.number_alone.ensures ∙ c.if-not-number_alone.false)),
  mark_adds _ _ _ c.loop-i.invariant.1 c.number_hash.ensures.0 (omega (arith, c.number_hash.ensures.1)) c.mark-seen.ensures.1,
)

pub returns : goal.returns
returns c = search_ends _ _ c.loop-i.invariant.0 c.loop-i-test.false
