use Rattle.boot.specs.Tables.{seven_bits}
use lib.Bits.{and_mask}
use native.Mathlib.Omega.{arith}
use Rattle.boot.proofs.lookups.seven_bits.Goals as goal

pub returns : goal.returns
unfolding seven_bits
returns c = let low = and_mask c.args.number 7 in
    (low, omega (arith, low))
