use Rattle.boot.specs.Systems.{suits, product_fits}
use mathlib.Core.Path.{sym, ◌∙◌}
use Rattle.boot.proofs.systems.Systems.is_suited.Goals as goal

pub returns-then-not-os_fits : goal.returns-then-not-os_fits
unfolding suits
returns-then-not-os_fits c = rw (sym c.os_fits.ensures ∙ c.if-not-os_fits.true)

pub returns : goal.returns
unfolding suits product_fits
returns c = rw (sym c.os_fits.ensures ∙ c.if-not-os_fits.false, sym c.field.ensures) c.in_map.ensures
