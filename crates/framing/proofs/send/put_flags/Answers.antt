use native.Mathlib.Omega.{arith}
use Rattle.framing.specs.Bits.{odd, bits_of}
use Rattle.framing.specs.Frame.{flag}
use Rattle.framing.specs.Inner.{place}
use Rattle.framing.proofs.BitLaws.{length_bits_of}
use Rattle.framing.proofs.PenLaws.{lays_both, place_after}
use Rattle.framing.proofs.send.put_flags.Goals as goal

pub put-requires : goal.put-requires
unfolding place
put-requires c =
    let one = c.put-one in
    omega (arith, place_after _ _ _ one.result (bits_of 8 126) one.ensures.0 (omega (arith, c.requires)) one.auto.out, length_bits_of 8 126, one.auto.out, c.requires)

pub returns : goal.returns
unfolding flag bits_of odd
returns c =
    let two = c.put in
    let one = c.put-one in
    (lays_both flag flag one.auto.out one.ensures.0 two.ensures.0, two.ensures.1)
