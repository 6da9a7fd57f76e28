use Rattle.rows.proofs.NumberLaws.{bit_past}
use Rattle.rows.specs.Numbers.{bit_at}
use lib.Pow.{pow_mono}
use mathlib.Core.Path.{refl, sym}
use native.Mathlib.Omega.{arith}
use Rattle.rows.proofs.is_bit.Goals as goal

pub returns-then-n-ge64 : goal.returns-then-n-ge64
returns-then-n-ge64 c = record { answer = sym (bit_past c.args.word c.args.n (omega (arith, pow_mono {i = 64} {j = c.args.n} c.if-n-ge64.true))) }

pub returns : goal.returns
unfolding bit_at
returns c = record { answer = refl }
