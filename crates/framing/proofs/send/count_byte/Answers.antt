use Prim.Native.Nat.{◌/◌, ◌%◌}
use mathlib.Core.Path.{refl}
use Rattle.framing.specs.Bits.{bits_of}
use Rattle.framing.proofs.BitLaws.{bits_halves}
use Rattle.framing.proofs.PenLaws.{counted_both}
use Rattle.framing.proofs.send.count_byte.Goals as goal

pub returns : goal.returns
returns c =
    let a = c.args in
    let low = c.put_in-low in
    let high = c.put_in-high in
    rw (bits_halves a.byte) (counted_both a.tally (bits_of 4 (a.byte % 16)) (bits_of 4 (a.byte / 16)) low.result high.result _ low.ensures.0 high.ensures.0 refl refl)
