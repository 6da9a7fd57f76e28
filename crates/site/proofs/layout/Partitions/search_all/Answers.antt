use Rattle.site.specs.Rules.{apart}
use Rattle.rows.proofs.IndexLaws.{search_starts, search_on, search_hit, search_ends, fails_at, holds_at}
use Rattle.rows.proofs.OutcomeLaws.{finds_some}
use mathlib.Core.Bool.{not}
use mathlib.Core.Path.{sym, ap, ◌∙◌}
use native.Mathlib.Omega.{arith}
use Rattle.site.proofs.layout.Partitions.search_all.Goals as goal

pub loop-i-init : goal.loop-i-init
loop-i-init c = search_starts _ _

pub find_overlap-requires : goal.find_overlap-requires
find_overlap-requires c = record { i_in_bounds = omega arith; by_index = λ j l. c.requires.by_index j (omega arith) }

pub returns-then-is_some : goal.returns-then-is_some
unfolding apart
returns-then-is_some c =
    search_hit _ _ c.loop-i.invariant c.loop-i-test.true (fails_at _ (ap not (sym (finds_some _ _ _ c.find_overlap.ensures) ∙ sym c.is_some.ensures ∙ c.if-is_some.true)))

pub loop-i-preserved : goal.loop-i-preserved
unfolding apart
loop-i-preserved c =
    search_on _ _ c.loop-i.invariant c.loop-i-test.true (holds_at _ (ap not (sym (finds_some _ _ _ c.find_overlap.ensures) ∙ sym c.is_some.ensures ∙ c.if-is_some.false)))

pub returns : goal.returns
returns c = search_ends _ _ c.loop-i.invariant c.loop-i-test.false
