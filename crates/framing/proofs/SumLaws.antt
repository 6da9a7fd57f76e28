-- The laws of the sum over all whole bytes between two places.
use Prim.Native.Nat.{ℕ, ◌+◌, ◌-◌, ◌*◌, ◌/◌, ◌%◌, ◌<◌, ◌≤◌}
use native.Mathlib.Omega.{arith}
use mathlib.Core.Path.{◌≡◌, refl, sym, ap, ◌∙◌}
use mathlib.Core.Bool.{Bool}
use mathlib.Core.List.{List}
use lib.ListN.{length, take, drop, length-take, length-drop}
use Rattle.framing.specs.Bits.{to_bits, value, packed}
use Rattle.framing.specs.Check.{check_byte, check_from}
use Rattle.framing.specs.Inner.{between, plain, coming, Goes, Sums}
use Rattle.framing.specs.declared.runs.Taker.{Taker}
use Rattle.framing.specs.declared.runs.Span.{Span}
use Rattle.framing.proofs.ZeroLaws.{without_long}
use Rattle.framing.proofs.TakeLaws.{fresh_coming, coming_last, coming_least, byte_taken, rest_taken, sum_more, drop_more}

-- so many bytes are summed, and the others are to come
pub record Summing (span : Span) (register bytes : ℕ) (t : Taker) : Type 0 where
  pub sum : register ≡ check_from 0xFFFF (packed bytes (plain span))
  pub rest : coming span t ≡ drop (8 * bytes) (plain span)
  pub most : 8 * bytes ≤ length (plain span)
  pub inside : t.at ≤ span.to

pub sum_starts : (span : Span) (t : Taker) → t.at ≡ span.from → t.ones ≡ 0 → t.acc ≡ 0 → t.held ≡ 0 → Summing span 0xFFFF 0 t
unfolding check_from packed
sum_starts span t e f g h = record { sum = refl; rest = fresh_coming span t e f g h; most = omega arith; inside = rw e span.order }

module _ (span : Span) (register bytes : ℕ) where
  pub sum_step : (t t' : Taker) → Summing span register bytes t → Goes span t t' → Summing span register bytes t'
  sum_step t t' s g = record { sum = s.sum; rest = g.same ∙ s.rest; most = s.most; inside = g.inside }

  pub sum_byte : (t t' : Taker) (x f : ℕ) → Summing span register bytes t → 8 ≤ t.held
      → t'.at ≡ t.at → t'.ones ≡ t.ones → t'.acc ≡ t.acc / 256 → t'.held ≡ t.held - 8 → x ≡ t.acc % 256 → f ≡ check_byte register x
      → Summing span f (bytes + 1) t'
  sum_byte t t' x f s l e₀ e₁ e₂ e₃ p q =
      let c : List Bool = plain span in
      let more : 8 ≤ length (drop (8 * bytes) c) = rw (sym s.rest) (omega (arith, coming_least span t)) in
      record {
        sum = q ∙ sum_more c bytes register x s.sum (p ∙ byte_taken span t t' l e₀ e₁ e₂ e₃ ∙ ap (λ (k : List Bool). value (take 8 k)) s.rest);
        rest = rest_taken span t t' l e₀ e₁ e₂ e₃ ∙ ap (drop 8) s.rest ∙ drop_more c bytes;
        most = omega (arith, more, length-drop (8 * bytes) c, s.most);
        inside = rw e₀ s.inside;
      }

  pub sum_fits : (t : Taker) → Summing span register bytes t → 8 * bytes ≤ span.to
  sum_fits t s = omega (arith, s.most, without_long (between span) 0, length-drop span.from (take span.to (to_bits span.bytes.now)), length-take span.to (to_bits span.bytes.now))

  pub sum_ends : (t : Taker) → Summing span register bytes t → t.held < 8 → span.to ≤ t.at
      → Sums (plain span) (record { bytes = bytes; left = t.held; register = register })
  sum_ends t s l h =
      let c : List Bool = plain span in
      let long : length (drop (8 * bytes) c) ≡ t.held = ap length (sym s.rest) ∙ coming_last span t s.inside h in
      let all : length c ≡ 8 * bytes + t.held = omega (arith, long, length-drop (8 * bytes) c, s.most) in
      record { bytes = omega arith; left = omega arith; register = s.sum }
