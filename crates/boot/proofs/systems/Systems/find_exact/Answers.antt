use Rattle.boot.specs.Systems.{system_rows}
use Rattle.rows.proofs.IndexLaws.{search_starts, search_on, search_hit, search_ends}
use mathlib.Core.Path.{sym, ◌∙◌}
use Rattle.boot.proofs.systems.Systems.find_exact.Goals as goal

pub loop-i-init : goal.loop-i-init
loop-i-init c = search_starts _ _

pub returns-then-fits_exactly : goal.returns-then-fits_exactly
unfolding system_rows
returns-then-fits_exactly c = (search_hit _ _ c.loop-i.invariant c.loop-i-test.true (sym c.fits_exactly.ensures ∙ c.if-fits_exactly.true), c.loop-i-test.true)

pub loop-i-preserved : goal.loop-i-preserved
loop-i-preserved c = search_on _ _ c.loop-i.invariant c.loop-i-test.true (sym c.fits_exactly.ensures ∙ c.if-fits_exactly.false)

pub returns : goal.returns
unfolding system_rows
returns c = search_ends _ _ c.loop-i.invariant c.loop-i-test.false
