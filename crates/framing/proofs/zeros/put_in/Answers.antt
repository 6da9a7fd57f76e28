use native.Mathlib.Omega.{arith}
use Rattle.framing.specs.Bits.{bits_of}
use Rattle.framing.proofs.ZeroLaws.{ones_lt}
use Rattle.framing.proofs.TableLaws.{put_read, entry_bits, entry_small}
use Rattle.framing.proofs.zeros.put_in.Goals as goal

pub invariant_of-result : goal.invariant_of-result
invariant_of-result c =
    let a = c.args in
    let e = (put_read a.ones a.half _ c.entry-entry.ensures c.requires.0 c.requires.1).entry in
    record { short = omega arith; small = entry_small e; few = rw e.last (ones_lt (bits_of 4 a.half) a.ones c.requires.0) }

pub returns : goal.returns
returns c =
    let a = c.args in
    let e = (put_read a.ones a.half _ c.entry-entry.ensures c.requires.0 c.requires.1).entry in
    (record { bits = entry_bits e; ones = e.last }, omega arith)
