use Prim.Native.Nat.{◌+◌, ◌/◌}
use native.Mathlib.Omega.{arith}
use mathlib.Core.Path.{◌≡◌, sym, ap, ◌∙◌}
use mathlib.Core.List.{[], ◌∷◌, ◌++◌}
use lib.ListN.{get_or}
use lib.Seq.{slice}
use Rattle.framing.specs.Bits.{bits_of, to_bits}
use Rattle.framing.proofs.BitLaws.{length_to_bits}
use Rattle.framing.proofs.TakeLaws.{goes_over, whole_place, byte_first, bit_slice}
use Rattle.framing.proofs.runs.Span.step.Goals as goal

pub go_over-requires : goal.go_over-requires
go_over-requires c =
    let a = c.args in
    let span = a.self.now in
    let pre = c.requires in
    let whole = whole_place a.t.at span.to (sym c.is_whole.ensures ∙ c.if-is_whole.true) (omega (arith, pre.1)) in
    (pre.0, omega (arith, whole.1))

pub returns-then-is_whole : goal.returns-then-is_whole
returns-then-is_whole c =
    let over = c.go_over.ensures in
    let z = c.byte_taken in
    let a = c.args in
    let span = a.self.now in
    let pre = c.requires in
    let s = span.bytes.now in
    let whole = whole_place a.t.at span.to (sym c.is_whole.ensures ∙ c.if-is_whole.true) (omega (arith, pre.1)) in (
      goes_over span a.t pre.0 8 (bits_of 8 (get_or s (a.t.at / 8) 0)) z.result c.go_over.result z.ensures whole.1
          (byte_first s a.t.at span.to whole.0 whole.1 span.within) over.0 over.1 over.2 over.3,
      omega (arith, over.0),
    )

pub returns : goal.returns
returns c =
    let over = c.go_over-2.ensures in
    let z = c.bit_taken in
    let a = c.args in
    let span = a.self.now in
    let pre = c.requires in
    let s = span.bytes.now in
    let bit = c.bit_at in
    let here : slice a.t.at span.to (to_bits s) ≡ (bit.result ∷ []) ++ slice (a.t.at + 1) span.to (to_bits s) =
    bit_slice (to_bits s) a.t.at span.to pre.1 (omega (arith, length_to_bits s, span.within)) ∙ ap (λ x. (x ∷ []) ++ slice (a.t.at + 1) span.to (to_bits s)) (sym bit.ensures) in (
      goes_over span a.t pre.0 1 (bit.result ∷ []) z.result c.go_over-2.result z.ensures (omega (arith, pre.1))
          here over.0 over.1 over.2 over.3,
      omega (arith, over.0),
    )
