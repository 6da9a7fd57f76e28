-- The laws of a taker: bits taken out one after the other, and the bits that it still gives.
use Prim.Native.Nat.{ℕ, suc, ◌+◌, ◌-◌, ◌*◌, ◌/◌, ◌%◌, ◌^◌, ◌<◌, ◌≤◌}
use native.Mathlib.Numerals.{add-one}
use native.Mathlib.Omega.{arith}
use mathlib.Core.Path.{◌≡◌, refl, sym, ap, ◌∙◌}
use mathlib.Core.Bool.{Bool, true, false, cond}
use mathlib.Core.List.{List, [], ◌∷◌, ◌++◌, append_assoc}
use lib.Arith.{digits_lt}
use lib.Dec.{eqb, leb}
use lib.Pow.{pow-add}
use lib.ListN.{length, take, drop, get_or, set, length-append, length-take, drop_of_length-le}
use lib.Seq.{slice, slice-cons, slice_empty, take_at, drop_at, drop-drop, drop-cons, drop-append-le, take-add, set_at, append_snoc}
use borrow.Author.Tests.{ne_eqb, eqb-true, leb-true, leb-false}
use mir.Val.{bool_byte}
use Rattle.rows.proofs.BoolLaws.{by_test, and_left, and_right}
use Rattle.framing.specs.Bits.{odd, bits_of, to_bits, bit, value, packed}
use Rattle.framing.specs.Zeros.{without_zeros}
use Rattle.framing.specs.Check.{check_byte, check_from}
use Rattle.framing.specs.Inner.{run_after, sixths, TakenOut, whole_byte, plain, coming, Goes}
use Rattle.framing.specs.declared.runs.Taken.{Taken}
use Rattle.framing.specs.declared.runs.Taker.{Taker}
use Rattle.framing.specs.declared.runs.Span.{Span}
use Rattle.framing.proofs.BitLaws.{bits_join, length_bits_of, length_to_bits, value_bits_of, length_packed, packed_more, take_drop, drop_to_bits}
use Rattle.framing.proofs.CheckLaws.{check_append}
use Rattle.framing.proofs.ZeroLaws.{without_append, run_append, sixths_append}

-- ---- one bit
pub byte_bit : (b : Bool) → bool_byte b ≡ bit b
unfolding bit
byte_bit true = refl
byte_bit false = refl

pub dropped_bit : (k : ℕ) (b : Bool) (z : Taken) → k ≡ 5 → z.bits ≡ 0 → z.count ≡ 0 → z.ones ≡ 0 → z.sixths ≡ bit b → TakenOut k (b ∷ []) z
unfolding without_zeros run_after sixths bits_of
dropped_bit k b z e f g h i = rw e (record { bits = rw (f, g); ones = h; sixths = rw i (omega arith) })

pub kept_bit : (k : ℕ) (b : Bool) (z : Taken) → (k ≡ 5 → ⊥) → z.bits ≡ bit b → z.count ≡ 1 → z.ones ≡ cond b (k + 1) 0 → z.sixths ≡ 0 → TakenOut k (b ∷ []) z
unfolding without_zeros run_after sixths bits_of odd bit
kept_bit k true z n f g h i = record { bits = rw (f, g, ne_eqb k 5 n); ones = h ∙ sym (rw (ne_eqb k 5 n)); sixths = i ∙ sym (rw (ne_eqb k 5 n)) }
kept_bit k false z n f g h i = record { bits = rw (f, g, ne_eqb k 5 n); ones = h ∙ sym (rw (ne_eqb k 5 n)); sixths = i ∙ sym (rw (ne_eqb k 5 n)) }

-- ---- bits and then more: the second stand above the first
pub above_lt : (m n a v : ℕ) → a < 2 ^ m → v < 2 ^ n → a + v * 2 ^ m < 2 ^ (m + n)
above_lt m n a v l h =
    let q : v * 2 ^ m + a < 2 ^ n * 2 ^ m = digits_lt {q = v} {m = 2 ^ n} {r = a} {c = 2 ^ m} h l in
    let p : 2 ^ (n + m) ≡ 2 ^ n * 2 ^ m = pow-add 2 n m in
    let o : n + m ≡ m + n = omega arith in
    rw (sym o, p) (omega arith)

pub taken_both : (k : ℕ) (xs ys : List Bool) (a b z : Taken) → TakenOut k xs a → TakenOut a.ones ys b
    → z.bits ≡ a.bits + b.bits * 2 ^ a.count → z.count ≡ a.count + b.count → z.ones ≡ b.ones → z.sixths ≡ a.sixths + b.sixths → TakenOut k (xs ++ ys) z
taken_both k xs ys a b z p q e f g h = record {
  bits = rw (e, f, bits_join a.count b.count a.bits b.bits a.small, p.bits, q.bits, p.ones) (sym (without_append xs ys k));
  ones = g ∙ q.ones ∙ rw p.ones (sym (run_append xs ys k));
  sixths = h ∙ rw (p.sixths, q.sixths, p.ones) (sym (sixths_append xs ys k));
}

-- ---- a taker goes over bits that stand before the rest
module _ (span : Span) (t : Taker) (few : t.held < 8) where
  abbrev b : List Bool
  b = to_bits span.bytes.now

  abbrev to : ℕ
  to = span.to

  pub goes_over : (n : ℕ) (xs : List Bool) (z : Taken) (t' : Taker) → TakenOut t.ones xs z → t.at + n ≤ to
      → slice t.at to b ≡ xs ++ slice (t.at + n) to b
      → t'.at ≡ t.at + n → t'.ones ≡ z.ones → t'.acc ≡ t.acc + z.bits * 2 ^ t.held → t'.held ≡ t.held + z.count → Goes span t t'
  unfolding coming
  goes_over n xs z t' o h p e f g i = record {
    same =
        rw (e, f, g, i, bits_join t.held z.count t.acc z.bits t.small, o.bits, o.ones, p)
        (append_assoc (bits_of t.held t.acc) (without_zeros t.ones xs) (without_zeros (run_after t.ones xs) (slice (t.at + n) to b))
        ∙ ap (λ (q : List Bool). bits_of t.held t.acc ++ q) (sym (without_append xs (slice (t.at + n) to b) t.ones)));
    inside = rw e h;
    further = omega arith;
  }

  -- while fewer than eight bits are in hand and eight are to come, bits stand before `to`
  pub coming_more : 8 ≤ length (coming span t) → t.at < to
  unfolding coming without_zeros
  coming_more h = by_test (leb to t.at)
      (λ y. absurd (none (drop_of_length-le (take to b) {i = t.at} (short (leb-true to t.at y))) h))
      (λ f. leb-false to t.at f)
    where
      short : to ≤ t.at → length (take to b) ≤ t.at
      short h = omega (arith, length-take to b)

      none : drop t.at (take to b) ≡ [] → 8 ≤ length (bits_of t.held t.acc ++ without_zeros t.ones (drop t.at (take to b))) → ⊥
      none e h =
          let few' : 8 ≤ length (bits_of t.held t.acc ++ []) = rw e at h in
          omega (arith, few', length-append (bits_of t.held t.acc) [], length_bits_of t.held t.acc)

pub goes_both : (span : Span) (t t' t'' : Taker) → Goes span t t' → Goes span t' t'' → Goes span t t''
goes_both span t t' t'' g h = record { same = h.same ∙ g.same; inside = h.inside; further = omega (arith, g.further, h.further) }

-- where all bits are gone over, those in hand are left
pub coming_last : (span : Span) (t : Taker) → t.at ≤ span.to → span.to ≤ t.at → length (coming span t) ≡ t.held
unfolding coming without_zeros
coming_last span t r h =
    let b : List Bool = to_bits span.bytes.now in
    let to : ℕ = span.to in
    let e : t.at ≡ to = omega (arith, r, h) in
    ap (λ (k : ℕ). length (bits_of t.held t.acc ++ without_zeros t.ones (slice k to b))) e
    ∙ ap (λ (q : List Bool). length (bits_of t.held t.acc ++ without_zeros t.ones q)) (slice_empty to b)
    ∙ length-append (bits_of t.held t.acc) []
    ∙ omega (arith, length_bits_of t.held t.acc)

pub coming_least : (span : Span) (t : Taker) → t.held ≤ length (coming span t)
unfolding coming
coming_least span t = omega (arith, length-append (bits_of t.held t.acc) (without_zeros t.ones (slice t.at span.to (to_bits span.bytes.now))), length_bits_of t.held t.acc)

-- a taker before its first step
pub fresh_coming : (span : Span) (t : Taker) → t.at ≡ span.from → t.ones ≡ 0 → t.acc ≡ 0 → t.held ≡ 0 → coming span t ≡ plain span
unfolding coming bits_of
fresh_coming span t e f g h = rw (e, f, g, h)

-- ---- the byte in hand, and the taker without it
module _ (span : Span) (t t' : Taker) (l : 8 ≤ t.held)
    (e : t'.at ≡ t.at) (f : t'.ones ≡ t.ones) (g : t'.acc ≡ t.acc / 256) (i : t'.held ≡ t.held - 8) where
  split_coming : coming span t ≡ bits_of 8 (t.acc % 256) ++ coming span t'
  unfolding coming
  split_coming =
      let m : ℕ = t.held - 8 in
      let whole : t.acc ≡ t.acc % 256 + t.acc / 256 * 2 ^ 8 = omega arith in
      let long : t.held ≡ 8 + m = omega arith in
      rw (e, f, g, i)
      (ap (λ (q : List Bool). q ++ without_zeros t.ones (slice t.at span.to (to_bits span.bytes.now)))
      (ap (λ (k : ℕ). bits_of k t.acc) long ∙ ap (bits_of (8 + m)) whole ∙ bits_join 8 m (t.acc % 256) (t.acc / 256) (omega arith))
      ∙ append_assoc (bits_of 8 (t.acc % 256)) (bits_of m (t.acc / 256)) (without_zeros t.ones (slice t.at span.to (to_bits span.bytes.now))))

  pub byte_taken : t.acc % 256 ≡ value (take 8 (coming span t))
  byte_taken = sym (ap (λ (q : List Bool). value (take 8 q)) split_coming ∙ ap value (take_at (bits_of 8 (t.acc % 256)) (coming span t') 8 (length_bits_of 8 (t.acc % 256))) ∙ value_bits_of 8 (t.acc % 256) (omega arith))

  pub rest_taken : coming span t' ≡ drop 8 (coming span t)
  rest_taken = sym (ap (drop 8) split_coming ∙ drop_at (bits_of 8 (t.acc % 256)) (coming span t') 8 (length_bits_of 8 (t.acc % 256)))

-- the bits in hand without eight of them
pub rest_small : (held acc : ℕ) → acc < 2 ^ held → 8 ≤ held → acc / 256 < 2 ^ (held - 8)
rest_small held acc small l =
    let long : held ≡ 8 + (held - 8) = omega arith in
    let high : 2 ^ held ≡ 2 ^ 8 * 2 ^ (held - 8) = ap (λ (k : ℕ). 2 ^ k) long ∙ pow-add 2 8 (held - 8) in
    omega (arith, small, high)

-- ---- bytes one after the other, of the bits c
pub sum_more : (c : List Bool) (i f x : ℕ) → f ≡ check_from 0xFFFF (packed i c) → x ≡ value (take 8 (drop (8 * i) c)) → check_byte f x ≡ check_from 0xFFFF (packed (i + 1) c)
unfolding check_from
sum_more c i f x e p = rw (add-one, packed_more i c, check_append (packed i c) (value (take 8 (drop (8 * i) c)) ∷ []) 0xFFFF, e, p)

pub drop_more : (c : List Bool) (i : ℕ) → drop 8 (drop (8 * i) c) ≡ drop (8 * (i + 1)) c
drop_more c i = drop-drop 8 (8 * i) c ∙ ap (λ (k : ℕ). drop k c) eight
  where
    eight : 8 * i + 8 ≡ 8 * (i + 1)
    eight = omega arith

pub copy_more : (c : List Bool) (i x : ℕ) (out out₀ : List ℕ) → out ≡ packed i c ++ drop i out₀ → x ≡ value (take 8 (drop (8 * i) c)) → i < length out₀
    → set out i x ≡ packed (i + 1) c ++ drop (i + 1) out₀
copy_more c i x out out₀ e p l =
    rw (e, p, add-one, drop-cons out₀ i 0 l, packed_more i c)
    (set_at (packed i c) (get_or out₀ i 0) (drop (suc i) out₀) (value (take 8 (drop (8 * i) c))) i (length_packed i c)
    ∙ sym (append_snoc (packed i c) (value (take 8 (drop (8 * i) c))) (drop (suc i) out₀)))

-- ---- where bits stand
pub slice_join : (f m t : ℕ) (l : List Bool) → f ≤ m → m ≤ t → m ≤ length l → slice f t l ≡ slice f m l ++ slice m t l
slice_join f m t l a b w =
    let e : m + (t - m) ≡ t = omega arith in
    ap (λ (k : ℕ). drop f (take k l)) (sym e)
    ∙ ap (drop f) (take-add m (t - m) l)
    ∙ drop-append-le f (take m l) (take (t - m) (drop m l)) (omega (arith, length-take m l))
    ∙ ap (λ (q : List Bool). slice f m l ++ q) (take_drop m (t - m) l ∙ ap (λ (k : ℕ). drop m (take k l)) e)

-- the byte that stands at a whole place
pub byte_slice : (s : List ℕ) (at : ℕ) → at % 8 ≡ 0 → at + 8 ≤ 8 * length s → slice at (at + 8) (to_bits s) ≡ bits_of 8 (get_or s (at / 8) 0)
unfolding to_bits
byte_slice s at e l =
    let i : ℕ = at / 8 in
    let p : at ≡ 8 * i = omega arith in
    sym (take_drop at 8 (to_bits s))
    ∙ ap (λ (k : ℕ). take 8 (drop k (to_bits s))) p
    ∙ ap (take 8) (drop_to_bits i s ∙ ap to_bits (drop-cons s i 0 (omega arith)))
    ∙ take_at (bits_of 8 (get_or s i 0)) (to_bits (drop (suc i) s)) 8 (length_bits_of 8 (get_or s i 0))

pub bit_slice : (b : List Bool) (at to : ℕ) → at < to → to ≤ length b → slice at to b ≡ (get_or b at false ∷ []) ++ slice (at + 1) to b
bit_slice b at to l w = slice-cons at to b false l w ∙ ap (λ (k : ℕ). get_or b at false ∷ slice k to b) (sym (add-one at))

pub whole_place : (at to : ℕ) → whole_byte at to ≡ true → at ≤ to → (at % 8 ≡ 0) × (at + 8 ≤ to)
unfolding whole_byte
whole_place at to t l =
    let room : 8 ≤ to - at = leb-true 8 (to - at) (and_right (eqb (at % 8) 0) (leb 8 (to - at)) t) in
    (eqb-true (at % 8) 0 (and_left (eqb (at % 8) 0) (leb 8 (to - at)) t), omega arith)

-- a whole byte stands before the rest
pub byte_first : (s : List ℕ) (at to : ℕ) → at % 8 ≡ 0 → at + 8 ≤ to → to ≤ 8 * length s
    → slice at to (to_bits s) ≡ bits_of 8 (get_or s (at / 8) 0) ++ slice (at + 8) to (to_bits s)
byte_first s at to e l w =
    slice_join at (at + 8) to (to_bits s) (omega arith) l (omega (arith, length_to_bits s))
    ∙ ap (λ (q : List Bool). q ++ slice (at + 8) to (to_bits s)) (byte_slice s at e (omega arith))
