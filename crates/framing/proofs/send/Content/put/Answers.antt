use mathlib.Core.List.{◌∷◌, ◌++◌}
use Rattle.rows.specs.Numbers.{low_bytes}
use Rattle.framing.specs.Bits.{bits_of, to_bits}
use Rattle.framing.specs.Check.{check_bytes}
use Rattle.framing.proofs.BitLaws.{content_bits}
use Rattle.framing.proofs.PenLaws.{sends_both, room_first, room_after}
use Rattle.framing.proofs.send.Content.put.Goals as goal

pub put_byte-first-requires : goal.put_byte-first-requires
put_byte-first-requires c =
    let self = c.args.self.now in
    let d = self.«data».now in
    let check = check_bytes (self.user ∷ d) in
    room_first (bits_of 8 self.user) (to_bits d ++ to_bits check) c.args.pen _ (rw (content_bits self.user d) at c.requires)

pub put_bytes-last-requires : goal.put_bytes-last-requires
put_bytes-last-requires c =
    let first = c.put_byte-first in
    let self = c.args.self.now in
    let d = self.«data».now in
    let check = check_bytes (self.user ∷ d) in
    room_first (to_bits d) (to_bits check) first.result _
    (room_after (bits_of 8 self.user) (to_bits d ++ to_bits check) _ _ c.args.pen first.result first.ensures first.auto.out (rw (content_bits self.user d) at c.requires))

pub put_bytes-requires : goal.put_bytes-requires
unfolding check_bytes low_bytes
put_bytes-requires c =
    let last = c.put_bytes-last in
    let first = c.put_byte-first in
    let self = c.args.self.now in
    let d = self.«data».now in
    let check = check_bytes (self.user ∷ d) in
    rw (c.to_le_bytes.ensures, self.checked)
    (room_after (to_bits d) (to_bits check) _ _ first.result last.result last.ensures last.auto.out
    (room_after (bits_of 8 self.user) (to_bits d ++ to_bits check) _ _ c.args.pen first.result first.ensures first.auto.out (rw (content_bits self.user d) at c.requires)))

pub returns : goal.returns
unfolding check_bytes low_bytes
returns c =
    let last = c.put_bytes-last in
    let first = c.put_byte-first in
    let self = c.args.self.now in
    let d = self.«data».now in
    let check = check_bytes (self.user ∷ d) in
    rw (content_bits self.user d)
    (sends_both (bits_of 8 self.user) (to_bits d ++ to_bits check) first.auto.out first.ensures
    (sends_both (to_bits d) (to_bits check) last.auto.out last.ensures (rw (c.to_le_bytes.ensures, self.checked) at c.put_bytes.ensures)))
