use native.Mathlib.Omega.{arith}
use mathlib.Core.Path.{◌∙◌}
use mathlib.Core.List.{◌++◌}
use Rattle.framing.specs.Bits.{to_bits}
use Rattle.framing.specs.Zeros.{with_zeros}
use Rattle.framing.specs.Frame.{flag, content, framed, frame_bits}
use Rattle.framing.specs.Inner.{place}
use Rattle.framing.proofs.PenLaws.{framed_long, frame_lays, frame_done, place_after}
use borrow.Author.Rules.{rules}
use Rattle.framing.proofs.send.Content.put_frame.Goals as goal

pub put_flags-opened-requires : goal.put_flags-opened-requires
unfolding place frame_bits
put_flags-opened-requires c =
    let self = c.args.self.now in
    omega (arith, c.new.ensures, framed_long (content self.user self.«data».now), c.requires)

pub put-sent-requires : goal.put-sent-requires
unfolding place flag frame_bits
put-sent-requires c =
    let opened = c.put_flags-opened in
    let self = c.args.self.now in
    let first = place_after _ _ _ opened.result (flag ++ flag) opened.ensures.0 (omega (arith, c.new.ensures)) opened.auto.out in
    rw opened.ensures.1 (omega (arith, first, c.new.ensures, framed_long (content self.user self.«data».now), c.requires, opened.auto.out))

pub put_flags-closed-requires : goal.put_flags-closed-requires
unfolding place flag frame_bits
put_flags-closed-requires c =
    let sent = c.put-sent in
    let opened = c.put_flags-opened in
    let self = c.args.self.now in
    let all_bytes = content self.user self.«data».now in
    let first = place_after _ _ _ opened.result (flag ++ flag) opened.ensures.0 (omega (arith, c.new.ensures)) opened.auto.out in
    let second = place_after _ _ opened.result sent.result (with_zeros opened.result.ones (to_bits all_bytes)) sent.ensures.lays (omega (arith, opened.ensures.0.inside, opened.auto.out)) sent.auto.out in
    omega (arith, first, c.new.ensures, rw opened.ensures.1 at second, framed_long all_bytes, c.requires, opened.auto.out, sent.auto.out)

pub put_rest-requires : goal.put_rest-requires
unfolding place frame_bits
put_rest-requires c =
    let closed = c.put_flags-closed in
    let sent = c.put-sent in
    let opened = c.put_flags-opened in
    let self = c.args.self.now in
    let all_bytes = content self.user self.«data».now in
    let all = frame_lays all_bytes opened.auto.out sent.auto.out opened.ensures.1 opened.ensures.0 sent.ensures closed.ensures.0 in (
      search rules,
      omega (arith, place_after _ _ _ closed.result (framed all_bytes) all (omega (arith, c.new.ensures)) (closed.auto.out ∙ sent.auto.out ∙ opened.auto.out), c.new.ensures, c.requires, opened.auto.out, sent.auto.out, closed.auto.out),
    )

pub returns : goal.returns
unfolding frame_bits
returns c =
    let closed = c.put_flags-closed in
    let sent = c.put-sent in
    let opened = c.put_flags-opened in
    let self = c.args.self.now in
    let new = c.new.ensures in
    let all_bytes = content self.user self.«data».now in
    let all = frame_lays all_bytes opened.auto.out sent.auto.out opened.ensures.1 opened.ensures.0 sent.ensures closed.ensures.0 in
    c.put_rest.ensures ∙ frame_done (framed all_bytes) _ _ c.new.result closed.result new.0 new.2 (closed.auto.out ∙ sent.auto.out ∙ opened.auto.out) all
