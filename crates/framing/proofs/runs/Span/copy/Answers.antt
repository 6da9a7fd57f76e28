use Prim.Native.Nat.{ℕ, ◌*◌, ◌<◌, ◌≤◌}
use native.Mathlib.Omega.{arith}
use mathlib.Core.Path.{◌≡◌, refl, ap, ◌∙◌}
use mathlib.Core.List.{List, ◌++◌, append-nil}
use lib.ListN.{length, take, drop, length-drop, length-take, drop_of_length-le}
use Rattle.framing.specs.Bits.{value, packed}
use Rattle.framing.specs.Inner.{coming}
use Rattle.framing.proofs.TakeLaws.{byte_taken, rest_taken, drop_more, copy_more}
use Rattle.framing.proofs.runs.Span.copy.Goals as goal

below : (n i : ℕ) (out : List ℕ) → n ≤ length out → i < length (take n out) → i < n
below n i out l h = omega (arith, length-take n out)

pub loop-byte-init : goal.loop-byte-init
unfolding packed
loop-byte-init c = (c.requires.0, refl, refl)

pub pull-r-requires : goal.pull-r-requires
pull-r-requires c =
    let at = c.loop-byte in
    let a = c.args in
    let span = a.self.now in
    let pre = c.requires in
    (at.invariant.0, rw (at.invariant.1, length-drop (8 * at.byte-index) (coming span a.t)) (omega (arith, pre.1, below _ _ _ pre.2 c.loop-byte-test.true)))

pub loop-byte-preserved : goal.loop-byte-preserved
loop-byte-preserved c =
    let at = c.loop-byte in
    let i = at.byte-index in
    let got = c.pull-r in
    let a = c.args in
    let span = a.self.now in
    let pre = c.requires in
    let rest = c.rest_of-r.ensures in
    let c₀ = coming span a.t in
    let here : coming span got.result ≡ drop (8 * i) c₀ = got.ensures.0.same ∙ at.invariant.1 in (
      rw rest.0 got.ensures.0.inside,
      rest_taken span got.result c.rest_of-r.result got.ensures.1 rest.0 rest.1 rest.2 rest.3 ∙ ap (drop 8) here ∙ drop_more c₀ i,
      copy_more c₀ i c.byte_of.result _ _ at.invariant.2
          (c.byte_of.ensures ∙ byte_taken span got.result c.rest_of-r.result got.ensures.1 rest.0 rest.1 rest.2 rest.3 ∙ ap (λ q. value (take 8 q)) here)
          c.loop-byte-test.true,
    )

pub returns : goal.returns
returns c =
    let at = c.loop-byte in
    let a = c.args in
    let span = a.self.now in
    let all : at.byte-index ≡ a.n = omega (arith, length-take a.n a.out.now, at.auto.byte-index-end, c.loop-byte-test.false, c.requires.2) in
    ap (λ l. l ++ drop a.n a.out.now)
    (at.invariant.2
    ∙ ap (λ l. packed at.byte-index (coming span a.t) ++ l) (drop_of_length-le (take a.n a.out.now) (c.loop-byte-test.false))
    ∙ append-nil _
    ∙ ap (λ k. packed k (coming span a.t)) all)
