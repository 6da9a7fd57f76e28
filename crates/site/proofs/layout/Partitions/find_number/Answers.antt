use Rattle.rows.proofs.IndexLaws.{search_starts, search_on, search_hit, search_ends}
use mathlib.Core.Path.{sym, ◌∙◌}
use Rattle.site.proofs.layout.Partitions.find_number.Goals as goal

pub loop-i-init : goal.loop-i-init
loop-i-init c = search_starts _ _

pub returns-then-is_numbered : goal.returns-then-is_numbered
returns-then-is_numbered c = (search_hit _ _ c.loop-i.invariant c.loop-i-test.true (sym c.is_numbered.ensures ∙ c.if-is_numbered.true), c.loop-i-test.true)

pub loop-i-preserved : goal.loop-i-preserved
loop-i-preserved c = search_on _ _ c.loop-i.invariant c.loop-i-test.true (sym c.is_numbered.ensures ∙ c.if-is_numbered.false)

pub returns : goal.returns
returns c = search_ends _ _ c.loop-i.invariant c.loop-i-test.false
