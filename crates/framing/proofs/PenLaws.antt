-- The laws of a pen: bits laid one after the other, sent with their zeros, counted, and the last byte.
use Prim.Native.Nat.{ℕ, suc, ◌+◌, ◌-◌, ◌*◌, ◌/◌, ◌%◌, ◌^◌, ◌<◌, ◌≤◌}
use native.Mathlib.Nat.{add_assoc, add-zero}
use native.Mathlib.Numerals.{add-one}
use native.Mathlib.Omega.{arith}
use mathlib.Core.Path.{◌≡◌, refl, sym, ap, ◌∙◌, subst}
use mathlib.Core.Bool.{Bool}
use mathlib.Core.List.{List, [], ◌∷◌, ◌++◌, append-nil, append_assoc}
use lib.ListN.{length, take, drop, set, length-append, take-append-drop}
use lib.Seq.{length-take-le, take-suc-set, drop-set-lt, drop-drop, take_all, set_split, append_snoc}
use Rattle.rows.specs.Rows.{over}
use Rattle.rows.proofs.NumberLaws.{Bytes}
use Rattle.framing.specs.Bits.{bits_of, to_bits, value, bytes_for, packed, pack}
use Rattle.framing.specs.Zeros.{with_zeros}
use Rattle.framing.specs.Frame.{flag, framed}
use Rattle.framing.specs.Inner.{ones_after, PutIn, standing, place, HasRoom, Lays, Sends, Counts}
use Rattle.framing.specs.declared.runs.Run.{Run}
use Rattle.framing.specs.declared.runs.Pen.{Pen}
use Rattle.framing.specs.declared.runs.Tally.{Tally}
use Rattle.framing.proofs.BitLaws.{bytes_take, length_bits_of, length_to_bits, to_bits_append, bits_join, value_bits_of, packed_bytes, length_pack}
use Rattle.framing.proofs.ZeroLaws.{with_append, ones_append}
use Rattle.framing.proofs.TakeLaws.{above_lt, rest_small}

-- how many bits stand
standing_long : (out : List ℕ) (p : Pen) → p.at ≤ length out → length (standing out p) ≡ place p
unfolding standing place
standing_long out p l =
    length-append (to_bits (take p.at out)) (bits_of p.held p.acc)
    ∙ omega (arith, length_to_bits (take p.at out), length-take-le p.at out l, length_bits_of p.held p.acc)

pub place_after : (out out' : List ℕ) (p p' : Pen) (bs : List Bool) → Lays out p bs out' p' → p.at ≤ length out → length out' ≡ length out
    → place p' ≡ place p + length bs
place_after out out' p p' bs l h e =
    sym (standing_long out' p' (omega (arith, l.inside)))
    ∙ ap length l.bits
    ∙ length-append (standing out p) bs
    ∙ ap (λ (n : ℕ). n + length bs) (standing_long out p h)

-- ---- n bits more: the byte is not full, or it is written
module _ (p : Pen) (run : Run) where
  abbrev acc : ℕ
  acc = p.acc + run.bits * 2 ^ p.held

  pub acc_small : acc < 2 ^ (p.held + run.count)
  acc_small = above_lt p.held run.count p.acc run.bits p.small run.small

  -- the bits that are left of a byte that is full
  pub left_short : p.held + run.count - 8 < 8
  left_short = omega (arith, p.short, run.short)

  pub left_small : 8 ≤ p.held + run.count → acc / 256 < 2 ^ (p.held + run.count - 8)
  left_small l = rest_small (p.held + run.count) acc acc_small l

module _ (out : List ℕ) (p : Pen) (run : Run) (q : Pen) where
  abbrev x : ℕ
  x = p.acc + run.bits * 2 ^ p.held

  pub lays_short : p.at ≤ length out → q.at ≡ p.at → q.acc ≡ x → q.held ≡ p.held + run.count → Lays out p (bits_of run.count run.bits) out q
  unfolding standing
  lays_short i e f g = record {
    bits =
        rw (e, f, g)
        (ap (λ (b : List Bool). to_bits (take p.at out) ++ b) (bits_join p.held run.count p.acc run.bits p.small)
        ∙ sym (append_assoc (to_bits (take p.at out)) (bits_of p.held p.acc) (bits_of run.count run.bits)));
    rest = refl;
    further = omega arith;
    inside = omega arith;
  }

  pub lays_full : 8 ≤ p.held + run.count → p.at < length out → (v : ℕ) → v ≡ x % 256 → q.at ≡ p.at + 1 → q.acc ≡ x / 256 → q.held ≡ p.held + run.count - 8
      → Lays out p (bits_of run.count run.bits) (set out p.at v) q
  unfolding standing to_bits
  lays_full l i v w e f g =
      let m : ℕ = p.held + run.count - 8 in
      let whole : x ≡ x % 256 + x / 256 * 2 ^ 8 = omega arith in
      let long : 8 + m ≡ p.held + run.count = omega arith in
      let bytes : take (p.at + 1) (set out p.at (x % 256)) ≡ take p.at out ++ (x % 256 ∷ []) = ap (λ (k : ℕ). take k (set out p.at (x % 256))) (add-one p.at) ∙ take-suc-set out p.at (x % 256) i in
      let eight : bits_of 8 (x % 256) ++ bits_of m (x / 256) ≡ bits_of (p.held + run.count) x =
      sym (bits_join 8 m (x % 256) (x / 256) (omega arith)) ∙ ap (bits_of (8 + m)) (sym whole) ∙ ap (λ (k : ℕ). bits_of k x) long in
      record {
        bits =
            rw (w, e, f, g)
            (ap (λ (b : List ℕ). to_bits b ++ bits_of m (x / 256)) bytes
            ∙ ap (λ (b : List Bool). b ++ bits_of m (x / 256)) (to_bits_append (take p.at out) (x % 256 ∷ []) ∙ ap (λ (b : List Bool). to_bits (take p.at out) ++ b) (append-nil (bits_of 8 (x % 256))))
            ∙ append_assoc (to_bits (take p.at out)) (bits_of 8 (x % 256)) (bits_of m (x / 256))
            ∙ ap (λ (b : List Bool). to_bits (take p.at out) ++ b) (eight ∙ bits_join p.held run.count p.acc run.bits p.small)
            ∙ sym (append_assoc (to_bits (take p.at out)) (bits_of p.held p.acc) (bits_of run.count run.bits)));
        rest = rw (w, e) (drop-set-lt (p.at + 1) out p.at (x % 256) (omega arith));
        further = omega arith;
        inside = omega arith;
      }

-- ---- one after the other
pub lays_both : (xs ys : List Bool) {out out' out'' : List ℕ} {p p' p'' : Pen} → length out' ≡ length out
    → Lays out p xs out' p' → Lays out' p' ys out'' p'' → Lays out p (xs ++ ys) out'' p''
lays_both xs ys {out} {out'} {out''} {p} {p'} {p''} e a b = record {
  bits = b.bits ∙ ap (λ (l : List Bool). l ++ ys) a.bits ∙ append_assoc (standing out p) xs ys;
  rest = b.rest ∙ ap (λ (k : ℕ). drop k out') (sym beyond) ∙ sym (drop-drop (p''.at - p'.at) p'.at out')
      ∙ ap (drop (p''.at - p'.at)) a.rest ∙ drop-drop (p''.at - p'.at) p'.at out ∙ ap (λ (k : ℕ). drop k out) beyond;
  further = omega (arith, a.further, b.further);
  inside = omega (arith, e, b.inside);
}
  where
    beyond : p'.at + (p''.at - p'.at) ≡ p''.at
    beyond = omega (arith, b.further)

pub sends_none : (out : List ℕ) (p : Pen) (s : List ℕ) → p.at ≤ length out → Sends out p (to_bits (take 0 s)) out p
unfolding to_bits with_zeros ones_after
sends_none out p s h = record { lays = record { bits = sym (append-nil (standing out p)); rest = refl; further = omega arith; inside = h }; ones = refl }

pub sends_both : (xs ys : List Bool) {out out' out'' : List ℕ} {p p' p'' : Pen} → length out' ≡ length out
    → Sends out p xs out' p' → Sends out' p' ys out'' p'' → Sends out p (xs ++ ys) out'' p''
sends_both xs ys {out} {out'} {out''} {p} {p'} {p''} e a b = record {
  lays =
      subst (λ (l : List Bool). Lays out p l out'' p'') (ap (λ (k : ℕ). with_zeros p.ones xs ++ with_zeros k ys) a.ones ∙ sym (with_append xs ys p.ones))
      (lays_both (with_zeros p.ones xs) (with_zeros p'.ones ys) e a.lays b.lays);
  ones = b.ones ∙ rw a.ones (sym (ones_append xs ys p.ones));
}

-- a pen with room stands within the bytes
pub room_inside : (p : Pen) (bs : List Bool) (out : List ℕ) → HasRoom out p bs → p.at ≤ length out
unfolding place
room_inside p bs out h = omega (arith, h)

-- room for the first bits, and for the rest after they were sent
pub room_first : (xs ys : List Bool) (p : Pen) (out : List ℕ) → HasRoom out p (xs ++ ys) → HasRoom out p xs
room_first xs ys p out h =
    omega (arith, ap length (with_append xs ys p.ones) ∙ length-append (with_zeros p.ones xs) (with_zeros (ones_after p.ones xs) ys), h)

pub room_after : (xs ys : List Bool) (out out' : List ℕ) (p p' : Pen) → Sends out p xs out' p' → length out' ≡ length out → HasRoom out p (xs ++ ys) → HasRoom out' p' ys
room_after xs ys out out' p p' s e h =
    rw (place_after out out' p p' (with_zeros p.ones xs) s.lays (room_inside p (xs ++ ys) out h) e, s.ones)
    (omega (arith, e, ap length (with_append xs ys p.ones) ∙ length-append (with_zeros p.ones xs) (with_zeros (ones_after p.ones xs) ys), h))

-- bits counted, and one after the other
pub counted_both : (t : Tally) (xs ys : List Bool) (a b : Run) (t' : Tally) → PutIn t.ones xs a → PutIn a.ones ys b → t'.bits ≡ t.bits + a.count + b.count → t'.ones ≡ b.ones → Counts t (xs ++ ys) t'
counted_both t xs ys a b t' p q e f =
    let first : a.count ≡ length (with_zeros t.ones xs) = sym (length_bits_of a.count a.bits) ∙ ap length p.bits in
    let second : b.count ≡ length (with_zeros (ones_after t.ones xs) ys) = sym (length_bits_of b.count b.bits) ∙ ap length q.bits ∙ ap (λ (k : ℕ). length (with_zeros k ys)) p.ones in
    let all : length (with_zeros t.ones (xs ++ ys)) ≡ length (with_zeros t.ones xs) + length (with_zeros (ones_after t.ones xs) ys) =
    ap length (with_append xs ys t.ones) ∙ length-append (with_zeros t.ones xs) (with_zeros (ones_after t.ones xs) ys) in
    record { bits = omega (arith, e, first, second, all); ones = f ∙ q.ones ∙ rw p.ones (sym (ones_append xs ys t.ones)) }

pub counts_none : (t : Tally) (s : List ℕ) → Counts t (to_bits (take 0 s)) t
unfolding to_bits with_zeros ones_after
counts_none t s = record { bits = sym (add-zero t.bits); ones = refl }

pub counts_both : (xs ys : List Bool) {t t' t'' : Tally} → Counts t xs t' → Counts t' ys t'' → Counts t (xs ++ ys) t''
counts_both xs ys {t} {t'} {t''} a b = record {
  bits =
      b.bits ∙ rw (a.bits, a.ones)
      (add_assoc t.bits _ _
      ∙ ap (λ (n : ℕ). t.bits + n) (sym (length-append (with_zeros t.ones xs) (with_zeros (ones_after t.ones xs) ys)) ∙ ap length (sym (with_append xs ys t.ones))));
  ones = b.ones ∙ rw a.ones (sym (ones_append xs ys t.ones));
}

-- ---- the last byte
module _ (out : List ℕ) (p : Pen) (b : Bytes out) (inside : p.at ≤ length out) where
  front : length (take p.at out) ≡ p.at
  front = length-take-le p.at out inside

  front_bytes : Bytes (take p.at out)
  front_bytes = bytes_take p.at out b

  size : length (standing out p) ≡ 8 * p.at + p.held
  unfolding place
  size = standing_long out p inside

  pub rest_none : p.held ≡ 0 → out ≡ over (pack (standing out p)) out
  unfolding pack bytes_for standing bits_of packed
  rest_none e =
      let n : (length (standing out p) + 7) / 8 ≡ length (take p.at out) + 0 = omega (arith, size, front) in
      let is : packed ((length (standing out p) + 7) / 8) (standing out p) ≡ take p.at out =
      ap (λ (k : ℕ). packed k (to_bits (take p.at out) ++ bits_of p.held p.acc)) n
      ∙ packed_bytes (take p.at out) (bits_of p.held p.acc) 0 front_bytes
      ∙ append-nil (take p.at out) in
      sym (ap (λ (l : List ℕ). l ++ drop (length l) out) is ∙ ap (λ (k : ℕ). take p.at out ++ drop k out) front ∙ take-append-drop p.at out)

  pub rest_byte : 0 < p.held → p.at < length out → set out p.at p.acc ≡ over (pack (standing out p)) out
  unfolding pack bytes_for standing packed
  rest_byte l i =
      let n : (length (standing out p) + 7) / 8 ≡ length (take p.at out) + 1 = omega (arith, size, front, p.short) in
      let last : value (take 8 (bits_of p.held p.acc)) ≡ p.acc =
      ap value (take_all 8 (bits_of p.held p.acc) (omega (arith, length_bits_of p.held p.acc, p.short))) ∙ value_bits_of p.held p.acc p.small in
      let is : packed ((length (standing out p) + 7) / 8) (standing out p) ≡ take p.at out ++ (p.acc ∷ []) =
      ap (λ (k : ℕ). packed k (to_bits (take p.at out) ++ bits_of p.held p.acc)) n
      ∙ packed_bytes (take p.at out) (bits_of p.held p.acc) 1 front_bytes
      ∙ ap (λ (v : ℕ). take p.at out ++ (v ∷ [])) last in
      let long : length (take p.at out ++ (p.acc ∷ [])) ≡ suc p.at = length-append (take p.at out) (p.acc ∷ []) ∙ omega (arith, front) in
      set_split out p.at p.acc i
      ∙ sym (append_snoc (take p.at out) p.acc (drop (suc p.at) out))
      ∙ sym (ap (λ (l : List ℕ). l ++ drop (length l) out) is ∙ ap (λ (k : ℕ). (take p.at out ++ (p.acc ∷ [])) ++ drop k out) long)

-- ---- the whole frame, from nothing
pub framed_long : (c : List ℕ) → length (framed c) ≡ 32 + length (with_zeros 0 (to_bits c))
unfolding framed flag
framed_long c = let w : List Bool = with_zeros 0 (to_bits c) in omega (arith, length-append w (flag ++ flag))

pub frame_lays : (c : List ℕ) {out out₁ out₂ out₃ : List ℕ} {p p₁ p₂ p₃ : Pen} → length out₁ ≡ length out → length out₂ ≡ length out₁ → p₁.ones ≡ 0
    → Lays out p (flag ++ flag) out₁ p₁ → Sends out₁ p₁ (to_bits c) out₂ p₂ → Lays out₂ p₂ (flag ++ flag) out₃ p₃ → Lays out p (framed c) out₃ p₃
unfolding framed
frame_lays c {out} {out₁} {out₂} {out₃} {p} {p₁} {p₂} {p₃} e f o a b d =
    let w : List Bool = with_zeros 0 (to_bits c) in
    let sent : Lays out₁ p₁ w out₂ p₂ = subst (λ (k : ℕ). Lays out₁ p₁ (with_zeros k (to_bits c)) out₂ p₂) o b.lays in
    let rest : Lays out₁ p₁ (w ++ (flag ++ flag)) out₃ p₃ = lays_both w (flag ++ flag) f sent d in
    subst (λ (l : List Bool). Lays out p l out₃ p₃) (append_assoc flag flag (w ++ (flag ++ flag))) (lays_both (flag ++ flag) (w ++ (flag ++ flag)) e a rest)

-- the bits laid from nothing stand packed, and the bytes after them stay
pub frame_done : (bs : List Bool) (out out' : List ℕ) (fresh p : Pen) → fresh.at ≡ 0 → fresh.held ≡ 0 → length out' ≡ length out → Lays out fresh bs out' p
    → over (pack (standing out' p)) out' ≡ over (pack bs) out
unfolding standing to_bits bits_of place bytes_for
frame_done bs out out' fresh p z h e l =
    let n : ℕ = length (pack bs) in
    let none : standing out fresh ≡ [] = rw (z, h) in
    let bits : standing out' p ≡ bs = l.bits ∙ ap (λ (b : List Bool). b ++ bs) none in
    let long : 8 * p.at + p.held ≡ length bs = sym (standing_long out' p (omega (arith, e, l.inside))) ∙ ap length bits in
    let beyond : p.at + (n - p.at) ≡ n = omega (arith, long, length_pack bs) in
    let same : drop n out' ≡ drop n out =
    ap (λ (k : ℕ). drop k out') (sym beyond) ∙ sym (drop-drop (n - p.at) p.at out') ∙ ap (drop (n - p.at)) l.rest ∙ drop-drop (n - p.at) p.at out ∙ ap (λ (k : ℕ). drop k out) beyond in
    ap (λ (b : List Bool). over (pack b) out') bits ∙ ap (λ (t : List ℕ). pack bs ++ t) same
