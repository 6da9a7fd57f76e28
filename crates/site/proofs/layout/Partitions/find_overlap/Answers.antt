use Rattle.rows.proofs.IndexLaws.{search_starts, search_on, search_hit, search_ends}
use mathlib.Core.Path.{sym, ◌∙◌}
use native.Mathlib.Omega.{arith}
use Rattle.site.proofs.layout.Partitions.find_overlap.Goals as goal

pub loop-j-init : goal.loop-j-init
loop-j-init c = search_starts _ _

pub overlap-requires : goal.overlap-requires
overlap-requires c = record {
  i_in_bounds = (c.requires.i_in_bounds, omega arith);
  i_value = (c.requires.by_index _ (omega arith), c.requires.by_index _ (omega arith));
}

pub returns-then-overlap : goal.returns-then-overlap
returns-then-overlap c = (search_hit _ _ c.loop-j.invariant c.loop-j-test.true (sym c.overlap.ensures ∙ c.if-overlap.true), c.loop-j-test.true)

pub loop-j-preserved : goal.loop-j-preserved
loop-j-preserved c = search_on _ _ c.loop-j.invariant c.loop-j-test.true (sym c.overlap.ensures ∙ c.if-overlap.false)

pub returns : goal.returns
returns c = search_ends _ _ c.loop-j.invariant c.loop-j-test.false
