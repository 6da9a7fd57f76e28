use native.Mathlib.Omega.{arith}
use Rattle.framing.specs.Bits.{bits_of}
use Rattle.framing.proofs.ZeroLaws.{run_le}
use Rattle.framing.proofs.TableLaws.{taken_read, entry_bits, entry_small}
use Rattle.framing.proofs.zeros.half_taken.Goals as goal

pub invariant_of-result : goal.invariant_of-result
invariant_of-result c =
    let a = c.args in
    let e = (taken_read a.ones a.half _ c.entry-entry.ensures c.requires.0 c.requires.1).entry in
    record { short = omega arith; small = entry_small e; few = rw e.last (run_le (bits_of 4 a.half) a.ones c.requires.0) }

pub returns : goal.returns
returns c =
    let a = c.args in
    let e = taken_read a.ones a.half _ c.entry-entry.ensures c.requires.0 c.requires.1 in
    (record { bits = entry_bits e.entry; ones = e.entry.last; sixths = e.six }, omega arith, omega (arith, e.few))
