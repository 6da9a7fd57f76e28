use Rattle.terms.proofs.PatternLaws.{pattern_none, pattern_some}
use native.Mathlib.Omega.{arith}
use Rattle.terms.proofs.names.pattern_of.Goals as goal

pub returns-then-solid-eq0 : goal.returns-then-solid-eq0
returns-then-solid-eq0 c =
    pattern_none _ c.told-name _ c.from_le_bytes-all.ensures c.fits-name c.if-solid-eq0.true

pub returns : goal.returns
returns c =
    pattern_some _ c.told-name _ c.from_le_bytes-all.ensures c.fits-name (omega (arith, c.if-solid-eq0.false))
