use Prim.Native.Nat.{◌+◌}
use mathlib.Core.Path.{refl, sym, ◌∙◌}
use mathlib.Core.List.{◌++◌}
use lib.ListN.{take, drop, get_or}
use lib.Seq.{take_all}
use Rattle.framing.specs.Bits.{bits_of, to_bits}
use Rattle.framing.proofs.BitLaws.{bits_more, bits_rest}
use Rattle.framing.proofs.PenLaws.{sends_none, sends_both, room_inside, room_first, room_after}
use Rattle.framing.proofs.send.put_bytes.Goals as goal

pub loop-byte-init : goal.loop-byte-init
loop-byte-init c = let s = c.args.bytes.now in (refl, sends_none _ _ s (room_inside c.args.pen (to_bits s) _ c.requires))

pub put_byte-p-requires : goal.put_byte-p-requires
put_byte-p-requires c =
    let at = c.loop-byte in
    let i = at.byte-index in
    let s = c.args.bytes.now in
    room_first (bits_of 8 (get_or s i 0)) (to_bits (drop (i + 1) s)) at.p _
    (room_after (to_bits (take i s)) (bits_of 8 (get_or s i 0) ++ to_bits (drop (i + 1) s)) _ _ c.args.pen at.p at.invariant.1 at.invariant.0
    (rw (bits_rest s i c.loop-byte-test.true) at c.requires))

pub loop-byte-preserved : goal.loop-byte-preserved
loop-byte-preserved c =
    let at = c.loop-byte in
    let i = at.byte-index in
    let s = c.args.bytes.now in
    let more = c.put_byte-p in (
      more.auto.out ∙ at.invariant.0,
      rw (bits_more s i c.loop-byte-test.true) (sends_both (to_bits (take i s)) (bits_of 8 (get_or s i 0)) at.invariant.0 at.invariant.1 more.ensures),
    )

pub returns : goal.returns
returns c = let at = c.loop-byte in rw (sym (take_all at.byte-index c.args.bytes.now c.loop-byte-test.false)) at.invariant.1
