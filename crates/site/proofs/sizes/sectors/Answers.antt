use Rattle.site.specs.Rules.{sectors}
use native.Mathlib.Omega.{arith}
use Rattle.site.proofs.sizes.sectors.Goals as goal

pub returns : goal.returns
unfolding sectors
returns c = (rw c.tracks.ensures.0, omega arith)
