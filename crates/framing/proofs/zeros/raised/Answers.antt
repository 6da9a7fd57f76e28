use native.Mathlib.Omega.{arith}
use lib.Pow.{shl_exact}
use Rattle.framing.proofs.zeros.raised.Goals as goal

pub returns : goal.returns
returns c = shl_exact {a = c.args.bits} 8 c.args.by 32 c.requires.0 (omega arith)
