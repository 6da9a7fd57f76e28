use native.Mathlib.Omega.{arith}
use native.Mathlib.Nat.{one-mul}
use mathlib.Core.Path.{◌∙◌}
use lib.Pow.{shl_exact}
use Rattle.rows.proofs.marks.bit.Goals as goal

pub returns : goal.returns
returns c = shl_exact {a = 1} 1 c.args.j 32 (omega arith) (omega arith) ∙ one-mul _
