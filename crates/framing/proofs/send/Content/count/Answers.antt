use Prim.Native.Nat.{◌+◌}
use native.Mathlib.Omega.{arith}
use mathlib.Core.Path.{◌≡◌, sym, ◌∙◌}
use mathlib.Core.List.{◌∷◌, ◌++◌}
use lib.ListN.{length, length-append}
use Rattle.rows.specs.Numbers.{low_bytes}
use Rattle.framing.specs.Bits.{bits_of, to_bits}
use Rattle.framing.specs.Zeros.{with_zeros}
use Rattle.framing.specs.Check.{check_bytes}
use Rattle.framing.specs.Frame.{content, frame_bits}
use Rattle.framing.proofs.BitLaws.{content_bits, length_bits_of, length_to_bits}
use Rattle.framing.proofs.ZeroLaws.{with_long}
use Rattle.framing.proofs.PenLaws.{counts_both, framed_long}
use Rattle.framing.proofs.send.Content.count.Goals as goal

pub count_bytes-last-requires : goal.count_bytes-last-requires
count_bytes-last-requires c =
    let self = c.args.self.now in
    (omega (arith, c.count_byte-first.ensures.bits, with_long (bits_of 8 self.user) 0 (omega arith), length_bits_of 8 self.user), c.requires)

pub count_bytes-requires : goal.count_bytes-requires
count_bytes-requires c =
    let first = c.count_byte-first in
    let self = c.args.self.now in
    let d = self.«data».now in (
      omega (arith, first.ensures.bits, with_long (bits_of 8 self.user) 0 (omega arith), length_bits_of 8 self.user, c.count_bytes-last.ensures.bits, with_long (to_bits d) first.result.ones first.result.few, length_to_bits d, c.requires),
      rw c.to_le_bytes.ensures (omega arith),
    )

pub returns : goal.returns
unfolding frame_bits content check_bytes low_bytes
returns c =
    let last = c.count_bytes-last in
    let first = c.count_byte-first in
    let self = c.args.self.now in
    let d = self.«data».now in
    let check = check_bytes (self.user ∷ d) in
    let all_bytes = content self.user d in
    let all = counts_both (bits_of 8 self.user) (to_bits d ++ to_bits check) first.ensures
    (counts_both (to_bits d) (to_bits check) last.ensures (rw (c.to_le_bytes.ensures, self.checked) at c.count_bytes.ensures)) in
    let bits : c.count_bytes.result.bits ≡ 32 + length (with_zeros 0 (to_bits all_bytes)) = rw (content_bits self.user d) all.bits in
    (bits ∙ sym (framed_long all_bytes), omega (arith, bits, with_long (to_bits all_bytes) 0 (omega arith), length_to_bits all_bytes, length-append (self.user ∷ d) check, c.requires))
