-- The laws of a name's pattern: a name has the pattern of another just where the two are equal, and the pattern is got from all eight
-- bytes as one number.
use Prim.Native.Nat.{ℕ, suc, ◌+◌, ◌-◌, ◌*◌, ◌/◌, ◌%◌, ◌^◌, ◌≤◌, ◌<◌}
use native.Mathlib.Nat.{not-suc-le-zero}
use native.Mathlib.Omega.{arith}
use mathlib.Core.Path.{◌≡◌, refl, sym, ap, ap₂, ◌∙◌, subst}
use mathlib.Core.Bool.{Bool, true, false, cond}
use mathlib.Core.List.{List, [], ◌∷◌}
use lib.Bits.{bit_and, bit_or, and_block, and_mask, and_le_l, and_le_r, or_add_and}
use lib.Count.{count_leading_zeros, leading_top}
use lib.Dec.{eqb, ltb, lit<}
use lib.ListN.{length, drop, get_or}
use lib.Pow.{pow_pos, pow_mono, pow-add, mod-pow-add, ones_split, ones_lt, high}
use borrow.Author.Tests.{eqb-true, eq-eqb, ltb-true, ltb-false}
use Rattle.rows.proofs.BoolLaws.{by_test, by_eq, both, iff}
use Rattle.rows.proofs.IndexLaws.{all_at}
use Rattle.rows.proofs.NumberLaws.{Bytes, low_worth}
use Rattle.rows.specs.Numbers.{low_first}
use Rattle.std.specs.Int.{sum_through, byte_worth}
use Rattle.rows.specs.Words.{all}
use Rattle.terms.specs.declared.names.Pattern.{Pattern}
use Rattle.terms.specs.Names.{pads, keeping, trimmed, same_name}
use Rattle.terms.specs.Shortcuts.{solid_bits, name_solid, name_word, name_mask, pattern_of, matches}
use Rattle.terms.proofs.NameLaws.{Keeps, drops, stays, keeps, same_trimmed, trimmed_same}

-- a byte pads just where it is 0 without the bit by which a space differs from a zero
pads_computed : all (λ b. cond (pads b) (eqb (bit_and b 223) 0) (ltb 0 (bit_and b 223))) 256 ≡ true
unfolding all pads
pads_computed = refl

module _ (b : ℕ) (h : b < 256) where
  tested : (p : Bool) → pads b ≡ p → cond p (eqb (bit_and b 223) 0) (ltb 0 (bit_and b 223)) ≡ true
  tested p e = ap (λ (p : Bool). cond p (eqb (bit_and b 223) 0) (ltb 0 (bit_and b 223))) (sym e) ∙ all_at _ 256 b pads_computed h

  no_solid : pads b ≡ true → bit_and b 223 ≡ 0
  no_solid e = eqb-true (bit_and b 223) 0 (tested true e)

  a_solid : pads b ≡ false → 0 < bit_and b 223
  a_solid e = ltb-true 0 (bit_and b 223) (tested false e)

  not_solid : bit_and b 223 ≡ 0 → pads b ≡ true
  not_solid e = by_test (pads b) (λ y. y) (λ n. absurd (omega (arith, a_solid n)))

-- one byte more, in both numbers and in a power
and_more : (x a m b : ℕ) → x < 256 → m < 256 → bit_and (x + 256 * a) (m + 256 * b) ≡ bit_and x m + 256 * bit_and a b
and_more x a m b h g =
    let above : x + 256 * a ≡ a * 2 ^ 8 + x = omega arith in
    let below : m + 256 * b ≡ b * 2 ^ 8 + m = omega arith in
    ap₂ bit_and above below ∙ and_block 8 a b x m h g ∙ omega arith

or_more : (x a m b : ℕ) → x < 256 → m < 256 → bit_or (x + 256 * a) (m + 256 * b) ≡ bit_or x m + 256 * bit_or a b
or_more x a m b h g = omega (arith, and_more x a m b h g, or_add_and (x + 256 * a) (m + 256 * b), or_add_and x m, or_add_and a b)

byte_more : (n : ℕ) → 2 ^ (8 * suc n) ≡ 256 * 2 ^ (8 * n)
byte_more n = ap (λ (k : ℕ). 2 ^ k) (omega arith) ∙ pow-add 2 8 (8 * n)

-- the mask of n bytes of which k are kept
abbrev mask_of : ℕ → ℕ → ℕ
mask_of k n = bit_or (2 ^ (8 * k) - 1) (solid_bits n)

mask_none : (n : ℕ) → mask_of 0 (suc n) ≡ 223 + 256 * mask_of 0 n
unfolding low_first
mask_none n = refl

mask_more : (k n : ℕ) → mask_of (suc k) (suc n) ≡ 255 + 256 * mask_of k n
unfolding low_first
mask_more k n =
    let ones : 2 ^ (8 * suc k) - 1 ≡ 255 + 256 * (2 ^ (8 * k) - 1) = omega (arith, byte_more k, pow_pos (8 * k)) in
    ap (λ (x : ℕ). bit_or x (223 + 256 * solid_bits n)) ones ∙ or_more 255 (2 ^ (8 * k) - 1) 223 (solid_bits n) (lit< tt) (lit< tt)

-- a byte more on both sides: x in front of a, of which t is kept, and y in front of bytes of which u is kept
module _ (x y a n : ℕ) (t u : List ℕ) (small-x : x < 256) (small-y : y < 256) where
  padded : bit_and (x + 256 * a) (mask_of 0 (suc n)) ≡ bit_and x 223 + 256 * bit_and a (mask_of 0 n)
  padded = ap (bit_and (x + 256 * a)) (mask_none n) ∙ and_more x a 223 (mask_of 0 n) small-x (lit< tt)

  whole : (k : ℕ) → bit_and (x + 256 * a) (mask_of (suc k) (suc n)) ≡ x + 256 * bit_and a (mask_of k n)
  whole k =
      ap (bit_and (x + 256 * a)) (mask_more k n)
      ∙ and_more x a 255 (mask_of k n) small-x (lit< tt)
      ∙ ap (λ (z : ℕ). z + 256 * bit_and a (mask_of k n)) (and_mask x 8 ∙ omega arith)

  more_has : (t ≡ u → bit_and a (mask_of (length u) n) ≡ low_first u) → (s r : List ℕ) → Keeps x t s → Keeps y u r → s ≡ r → bit_and (x + 256 * a) (mask_of (length r) (suc n)) ≡ low_first r
  unfolding low_first
  more_has rest [] [] (drops p none) (drops q none') e =
      let zero_rest : bit_and a (mask_of 0 n) ≡ 0 = subst (λ (l : List ℕ). bit_and a (mask_of (length l) n) ≡ low_first l) none' (rest (none ∙ sym none')) in
      omega (arith, padded, no_solid x small-x p, zero_rest)
  more_has rest [] _ (drops p none) (stays q) e = absurd (omega (arith, ap length e))
  more_has rest _ [] (stays p) (drops q none) e = absurd (omega (arith, ap length e))
  more_has rest _ _ (stays p) (stays q) e = omega (arith, whole (length u), rest (ap (drop 1) e), ap (λ (l : List ℕ). get_or l 0 0) e)

  more_same : (bit_and a (mask_of (length u) n) ≡ low_first u → t ≡ u) → (s r : List ℕ) → Keeps x t s → Keeps y u r → bit_and (x + 256 * a) (mask_of (length r) (suc n)) ≡ low_first r → s ≡ r
  unfolding low_first
  more_same rest [] [] (drops p none) (drops q none') e = refl
  more_same rest _ [] (stays p) (drops q none) e =
      let zero_rest : bit_and a (mask_of (length u) n) ≡ low_first u = subst (λ (l : List ℕ). bit_and a (mask_of (length l) n) ≡ low_first l) (sym none) (omega (arith, padded, e)) in
      absurd (both (not_solid x small-x (omega (arith, padded, e))) (p (rest zero_rest ∙ none)))
  more_same rest [] _ (drops p none) (stays q) e =
      let same_byte : x ≡ y = omega (arith, whole (length u), e) in
      absurd (both p (ap pads same_byte ∙ q (sym (rest (omega (arith, whole (length u), e))) ∙ none)))
  more_same rest _ _ (stays p) (stays q) e = ap₂ ◌∷◌ (omega (arith, whole (length u), e)) (rest (omega (arith, whole (length u), e)))

-- so a name has the pattern of another of its length just where the two are equal
abbrev Has : List ℕ → List ℕ → Type 0
Has a b = bit_and (low_first a) (name_mask b) ≡ name_word b

has : (a b : List ℕ) → Bytes a → Bytes b → length a ≡ length b → (trimmed a ≡ trimmed b → Has a b) × (Has a b → trimmed a ≡ trimmed b)
unfolding trimmed low_first name_mask name_word
has [] [] small-a small_b long = (λ _. refl, λ _. refl)
has [] (y ∷ b) small-a small_b long = absurd (omega (arith, long))
has (x ∷ a) [] small-a small_b long = absurd (omega (arith, long))
has (x ∷ a) (y ∷ b) small-a small_b long =
    let rest = has a b (λ i. small-a (suc i)) (λ i. small_b (suc i)) (omega (arith, long)) in
    let kept-a = keeps x (trimmed a) in
    let kept_b = keeps y (trimmed b) in (
      more_has x y (low_first a) (length b) (trimmed a) (trimmed b) (small-a 0) (small_b 0) rest.0 _ _ kept-a kept_b,
      more_same x y (low_first a) (length b) (trimmed a) (trimmed b) (small-a 0) (small_b 0) rest.1 _ _ kept-a kept_b,
    )

pub match_same : (a b : List ℕ) → Bytes a → Bytes b → length a ≡ length b → matches a (pattern_of b) ≡ same_name a b
unfolding matches pattern_of
match_same a b small-a small_b long =
    let both_ways = has a b small-a small_b long in
    iff _ _ (λ y. trimmed_same a b (both_ways.1 (eqb-true _ _ y))) (λ y. eq-eqb _ _ (both_ways.0 (same_trimmed a b y)))

-- what is solid of a name, a byte more; and that it is all in what is kept of the name, so that of equal names it is equal
solid_more : (b : ℕ) (l : List ℕ) → b < 256 → name_solid (b ∷ l) ≡ bit_and b 223 + 256 * name_solid l
unfolding name_solid low_first
solid_more b l h = and_more b (low_first l) 223 (solid_bits (length l)) h (lit< tt)

solid_kept : (l : List ℕ) → Bytes l → name_solid l ≡ bit_and (low_first (trimmed l)) (solid_bits (length l))
unfolding trimmed name_solid low_first
solid_kept [] small = refl
solid_kept (b ∷ l) small = front (trimmed l) (keeping b (trimmed l)) (keeps b (trimmed l)) (solid_kept l (λ i. small (suc i)))
  where
    front : (t s : List ℕ) → Keeps b t s → name_solid l ≡ bit_and (low_first t) (solid_bits (length l)) → name_solid (b ∷ l) ≡ bit_and (low_first s) (solid_bits (length (b ∷ l)))
    front t [] (drops y none) rest =
        let nothing : name_solid l ≡ 0 = rest ∙ ap (λ (r : List ℕ). bit_and (low_first r) (solid_bits (length l))) none in
        omega (arith, solid_more b l (small 0), no_solid b (small 0) y, nothing)
    front t _ (stays last) rest =
        solid_more b l (small 0) ∙ ap (λ (x : ℕ). bit_and b 223 + 256 * x) rest ∙ sym (and_more b (low_first t) 223 (solid_bits (length l)) (small 0) (lit< tt))

pub same_solid : (a b : List ℕ) → Bytes a → Bytes b → length a ≡ length b → same_name a b ≡ true → name_solid a ≡ name_solid b
same_solid a b small-a small_b long h =
    solid_kept a small-a ∙ ap₂ (λ (t : List ℕ) (n : ℕ). bit_and (low_first t) (solid_bits n)) (same_trimmed a b h) long ∙ sym (solid_kept b small_b)

low_more : (b x n : ℕ) → b < 256 → (b + 256 * x) % 2 ^ (8 * suc n) ≡ b + 256 * (x % 2 ^ (8 * n))
low_more b x n h =
    let y : ℕ = b + 256 * x in
    let all : 8 * suc n ≡ 8 * n + 8 = omega arith in
    let up : y / 256 ≡ x = omega arith in
    let down : y % 256 ≡ b = omega arith in
    ap (λ (k : ℕ). y % 2 ^ k) all ∙ mod-pow-add y (8 * n) 8 ∙ ap₂ (λ (u d : ℕ). u % 2 ^ (8 * n) * 256 + d) up down ∙ omega arith

no_length : (t : List ℕ) → length t ≡ 0 → t ≡ []
no_length [] e = refl
no_length (b ∷ t) e = absurd (omega (arith, e))

-- t is what is kept of l: the number in l cut to as many bytes is that in t, and they are as many as what is solid needs
record Cut (l t : List ℕ) : Type 0 where
  below : name_solid l < 2 ^ (8 * length t)
  above : 0 < length t → 2 ^ (8 * length t) ≤ 256 * name_solid l
  kept : low_first l % 2 ^ (8 * length t) ≡ low_first t

-- a byte in front of what is kept
module _ (b : ℕ) (l : List ℕ) (h : b < 256) where
  cut_more : (t s : List ℕ) → Cut l t → Keeps b t s → Cut (b ∷ l) s
  unfolding low_first
  cut_more t [] c (drops y none) =
      let nothing : name_solid l < 1 = subst (λ (r : List ℕ). name_solid l < 2 ^ (8 * length r)) none c.below in
      record { below = omega (arith, solid_more b l h, no_solid b h y, nothing); above = λ n. absurd (not-suc-le-zero n); kept = omega arith }
  cut_more t (_ ∷ _) c (stays last) =
      let grown = byte_more (length t) in
      record {
        below = omega (arith, solid_more b l h, grown, and_le_l b 223, c.below);
        above = λ _. by_eq (length t) 0 (λ e. omega (arith, solid_more b l h, grown, a_solid b h (last (no_length t e)), ap (λ (n : ℕ). 2 ^ (8 * n)) e)) (λ n. omega (arith, solid_more b l h, grown, c.above (omega (arith, n))));
        kept = low_more b (low_first l) (length t) h ∙ ap (λ (x : ℕ). b + 256 * x) c.kept;
      }

cut : (l : List ℕ) → Bytes l → Cut l (trimmed l)
unfolding trimmed low_first name_solid
cut [] small = record { below = lit< tt; above = λ l. absurd (not-suc-le-zero l); kept = refl }
cut (b ∷ l) small = cut_more b l (small 0) (trimmed l) _ (cut l (λ i. small (suc i))) (keeps b (trimmed l))

-- a number that needs n bytes has the others of its eight above its highest bit
bytes_above : (y n : ℕ) → 0 < y → y < 2 ^ 64 → y < 2 ^ (8 * n) → (0 < n → 2 ^ (8 * n) ≤ 256 * y) → 8 * n + count_leading_zeros 64 y / 8 * 8 ≡ 64
bytes_above y n some fits below above = omega (arith, top.1, under, over)
  where
    top : (j : ℕ) × (count_leading_zeros 64 y + suc j ≡ 64) × (2 ^ j ≤ y) × (y < 2 ^ suc j)
    top = leading_top 64 y some fits

    under : top.0 < 8 * n
    under = by_test (ltb top.0 (8 * n)) (ltb-true _ _) (λ b. absurd (omega (arith, pow_mono (ltb-false top.0 (8 * n) b), top.2, below)))

    over : 8 * n < top.0 + 9
    over = by_test (ltb (8 * n) (top.0 + 9)) (ltb-true _ _) (λ b.
        let far : suc top.0 + 8 ≤ 8 * n = omega (arith, ltb-false (8 * n) (top.0 + 9) b) in
        absurd (omega (arith, pow_mono far, pow-add 2 (suc top.0) 8, above (omega (arith, far)), top.3)))

-- what is solid of eight bytes, and the padding in bits: the whole bytes above the highest bit of that
abbrev solid_in : ℕ → ℕ
solid_in x = bit_and x 16131858542891098079

abbrev padding_in : ℕ → ℕ
padding_in x = count_leading_zeros 64 (solid_in x) / 8 * 8

solid_fits : (x : ℕ) → solid_in x < 2 ^ 64
solid_fits x = omega (arith, and_le_r x 16131858542891098079)

pub padding_small : (x m : ℕ) → 64 ≤ m → 0 < solid_in x → padding_in x < m
padding_small x m h some = omega (arith, (leading_top 64 (solid_in x) some (solid_fits x)).1)

-- the pattern of eight bytes, from the number in them all
module _ (l : List ℕ) (eight : length l ≡ 8) (x : ℕ) (read : x ≡ sum_through (λ i. byte_worth i (get_or l i 0)) 7) where
  is : x ≡ low_first l
  is = read ∙ sym (low_worth 7 l eight)

  pub match_is : (p : Pattern) → eqb (bit_and x p.mask) p.word ≡ matches l p
  unfolding matches
  match_is p = ap (λ (y : ℕ). eqb (bit_and y p.mask) p.word) is

  pub solid_is : solid_in x ≡ name_solid l
  unfolding name_solid low_first
  solid_is = ap₂ (λ (y k : ℕ). bit_and y (solid_bits k)) is (sym eight)

  mask_is : (k : ℕ) → bit_or (2 ^ (8 * k) - 1) 16131858542891098079 ≡ mask_of k (length l)
  unfolding low_first
  mask_is k = ap (mask_of k) (sym eight)

  nothing_kept : Bytes l → solid_in x ≡ 0 → trimmed l ≡ []
  nothing_kept small e = by_eq (length (trimmed l)) 0
      (no_length (trimmed l))
      (λ ne. absurd (omega (arith, e, solid_is, (cut l small).above (omega (arith, ne)), pow_pos (8 * length (trimmed l)))))

  pub pattern_none : Bytes l → solid_in x ≡ 0 → record { word = 0; mask = 16131858542891098079 } ≡ pattern_of l
  unfolding pattern_of name_word name_mask low_first
  pattern_none small e =
      let none = sym (nothing_kept small e) in
      ap₂ (λ (w m : ℕ). record { word = w; mask = m }) (ap low_first none) (mask_is 0 ∙ ap (λ (t : List ℕ). mask_of (length t) (length l)) none)

  pub pattern_some : Bytes l → 0 < solid_in x → record { word = bit_and x (18446744073709551615 / 2 ^ padding_in x); mask = bit_or (18446744073709551615 / 2 ^ padding_in x) 16131858542891098079 } ≡ pattern_of l
  unfolding pattern_of name_word name_mask
  pattern_some small some = ap₂ (λ (w m : ℕ). record { word = w; mask = m }) (ap₂ bit_and is ones ∙ and_mask (low_first l) (8 * length (trimmed l)) ∙ (cut l small).kept) (ap (λ (k : ℕ). bit_or k 16131858542891098079) ones ∙ mask_is (length (trimmed l)))
    where
      padding_is : 8 * length (trimmed l) + padding_in x ≡ 64
      padding_is =
          bytes_above (solid_in x) (length (trimmed l)) some (solid_fits x) (omega (arith, solid_is, (cut l small).below)) (λ p. omega (arith, solid_is, (cut l small).above p))

      ones : 18446744073709551615 / 2 ^ padding_in x ≡ 2 ^ (8 * length (trimmed l)) - 1
      ones =
          let k : ℕ = 8 * length (trimmed l) in
          let p : ℕ = padding_in x in
          let split : 18446744073709551615 ≡ (2 ^ k - 1) * 2 ^ p + (2 ^ p - 1) = ap (λ (k : ℕ). 2 ^ k - 1) (sym padding_is) ∙ ones_split k p in
          ap (λ (x : ℕ). x / 2 ^ p) split ∙ high (2 ^ k - 1) p (ones_lt p)
