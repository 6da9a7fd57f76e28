use native.Mathlib.Omega.{arith}
use mathlib.Core.Path.{sym}
use lib.ListN.{take, get_or}
use lib.Seq.{take_all}
use Rattle.framing.specs.Bits.{bits_of, to_bits}
use Rattle.framing.proofs.BitLaws.{bits_more, length_bits_of}
use Rattle.framing.proofs.ZeroLaws.{with_long}
use Rattle.framing.proofs.PenLaws.{counts_both, counts_none}
use Rattle.framing.proofs.send.count_bytes.Goals as goal

pub loop-byte-init : goal.loop-byte-init
loop-byte-init c = (omega arith, counts_none _ c.args.bytes.now)

pub loop-byte-preserved : goal.loop-byte-preserved
loop-byte-preserved c =
    let at = c.loop-byte in
    let i = at.byte-index in
    let s = c.args.bytes.now in
    let byte = bits_of 8 (get_or s i 0) in
    let more = c.count_byte-t.ensures in (
      omega (arith, more.bits, with_long byte at.t.ones at.t.few, length_bits_of 8 (get_or s i 0), at.invariant.0),
      rw (bits_more s i c.loop-byte-test.true) (counts_both (to_bits (take i s)) byte at.invariant.1 more),
    )

pub returns : goal.returns
returns c = let at = c.loop-byte in rw (sym (take_all at.byte-index c.args.bytes.now c.loop-byte-test.false)) at.invariant.1
