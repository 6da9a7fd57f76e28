use Rattle.rows.specs.Numbers.{bit_at}
use Rattle.rows.proofs.NumberLaws.{bit_in_byte}
use lib.Bits.{and_mask}
use lib.Dec.{eqb}
use lib.ListN.{get_or}
use native.Mathlib.Omega.{arith}
use mathlib.Core.Path.{sym, ap, ◌∙◌}
use Prim.Native.Nat.{ℕ, ◌/◌, ◌%◌, ◌^◌}
use Rattle.boot.proofs.systems.in_map.Goals as goal

pub bounds-map-bit : goal.bounds-map-bit
bounds-map-bit c = omega (arith, c.from-bit.ensures, c.seven_bits.ensures.1, c.told-map)

pub returns : goal.returns
unfolding bit_at
returns c =
    let bit = c.from-bit in
    let byte = get_or c.args.map.now (bit.result / 8) 0 in
    ap (λ (y : ℕ). eqb y 1) (and_mask (byte / 2 ^ (bit.result % 8)) 1)
    ∙ sym (bit_in_byte c.args.map.now c.fits-map bit.result)
    ∙ ap (bit_at _) (bit.ensures ∙ c.seven_bits.ensures.0)
