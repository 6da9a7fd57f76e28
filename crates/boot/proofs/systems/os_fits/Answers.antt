use Rattle.boot.specs.Systems.{os_fits}
use borrow.Author.Tests.{eq-eqb, ne_eqb}
use Rattle.boot.proofs.systems.os_fits.Goals as goal

pub returns-then-number-wanted : goal.returns-then-number-wanted
unfolding os_fits
returns-then-number-wanted c = rw (ne_eqb _ _ c.if-number-wanted.true)

pub returns-then-wanted-eq0 : goal.returns-then-wanted-eq0
unfolding os_fits
returns-then-wanted-eq0 c = rw (eq-eqb _ _ c.if-number-wanted.false, eq-eqb _ _ c.if-wanted-eq0.true)

pub returns-else-wanted-eq0 : goal.returns-else-wanted-eq0
unfolding os_fits
returns-else-wanted-eq0 c = rw (eq-eqb _ _ c.if-number-wanted.false, ne_eqb _ _ c.if-wanted-eq0.false)
