use Prim.Native.Nat.{◌/◌, ◌%◌}
use native.Mathlib.Omega.{arith}
use mathlib.Core.Path.{◌≡◌, ap, ◌∙◌}
use lib.Bits.{bit_xor, and_mask}
use lib.ListN.{get_or}
use Rattle.framing.specs.Check.{steps}
use Rattle.framing.specs.declared.fcs.TheConstants.{TABLE}
use Rattle.framing.proofs.CheckLaws.{table_step, entry_is}
use Rattle.framing.proofs.fcs.add_byte.Goals as goal

pub returns : goal.returns
returns c =
    let a = c.args in
    let low = bit_xor a.register a.byte in
    let at : c.from-2.result ≡ low % 256 = c.from-2.ensures ∙ rw c.from.ensures (and_mask low 8) in
    let entry : get_or TABLE c.from-2.result 0 ≡ steps 8 (low % 256) = rw at (entry_is (low % 256) (omega arith)) in
    ap (bit_xor (a.register / 256)) entry ∙ table_step a.register a.byte c.ranges.byte.fits
