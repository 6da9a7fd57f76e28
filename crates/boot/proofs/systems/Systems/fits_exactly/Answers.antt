use Rattle.boot.specs.Systems.{system_options, fits_exactly}
use Rattle.boot.proofs.ChoiceLaws.{unfit, fit_there}
use mathlib.Core.Path.{sym}
use Rattle.boot.proofs.systems.Systems.fits_exactly.Goals as goal

pub returns-then-is_none : goal.returns-then-is_none
unfolding fits_exactly
returns-then-is_none c = rw (unfit _ _ c.size_of.result c.is_none.result c.size_of.ensures c.is_none.ensures c.if-is_none.true)

pub returns : goal.returns
unfolding fits_exactly system_options
returns c =
    rw (fit_there _ _ c.size_of.result c.is_none.result c.size_of.ensures c.is_none.ensures c.if-is_none.false, sym c.field.ensures) c.is_same.ensures.answer
