use Prim.Native.Nat.{◌/◌, ◌%◌}
use native.Mathlib.Omega.{arith}
use Rattle.framing.specs.Bits.{bits_of}
use Rattle.framing.proofs.BitLaws.{bits_halves}
use Rattle.framing.proofs.PenLaws.{sends_both, room_first, room_after}
use Rattle.framing.proofs.send.put_byte.Goals as goal

pub put_half-low-requires : goal.put_half-low-requires
put_half-low-requires c =
    let a = c.args in
    (omega arith, room_first (bits_of 4 (a.byte % 16)) (bits_of 4 (a.byte / 16)) a.pen _ (rw (bits_halves a.byte) at c.requires))

pub put_half-requires : goal.put_half-requires
put_half-requires c =
    let low = c.put_half-low in
    let a = c.args in
    (omega arith, room_after (bits_of 4 (a.byte % 16)) (bits_of 4 (a.byte / 16)) _ _ a.pen low.result low.ensures low.auto.out (rw (bits_halves a.byte) at c.requires))

pub returns : goal.returns
returns c =
    let high = c.put_half in
    let low = c.put_half-low in
    let a = c.args in
    rw (bits_halves a.byte) (sends_both (bits_of 4 (a.byte % 16)) (bits_of 4 (a.byte / 16)) low.auto.out low.ensures high.ensures)
