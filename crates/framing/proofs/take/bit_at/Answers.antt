use mathlib.Core.Path.{sym}
use Rattle.framing.specs.Bits.{odd}
use Rattle.framing.proofs.BitLaws.{bit_is}
use Rattle.framing.proofs.take.bit_at.Goals as goal

pub returns : goal.returns
unfolding odd
returns c = sym (bit_is _ c.args.at c.requires)
