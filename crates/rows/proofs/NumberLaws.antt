-- The laws of specs/Numbers.antt: bytes and the number in them, both ways, over the width.
use Prim.Native.Nat.{ℕ, zero, suc, ◌+◌, ◌-◌, ◌*◌, ◌/◌, ◌%◌, ◌^◌, ◌≤◌, ◌<◌}
use native.Mathlib.Omega.{arith}
use native.Mathlib.Nat.{pow-suc, pow-succ', mul_assoc, add-zero, one-mul, div-lt_iff_lt-mul, div-div-eq-div-mul}
use mathlib.Core.Path.{◌≡◌, refl, sym, ap, ◌∙◌, subst}
use mathlib.Core.Bool.{true, false}
use mathlib.Core.List.{List, [], ◌∷◌}
use lib.Dec.{eqb, ltb, lit<}
use lib.ListN.{length, take, drop, get_or, length-take, get_or-eq_default}
use lib.Seq.{get_or-drop, ext_get_or}
use lib.Pow.{pow_pos}
use borrow.Author.Tests.{ltb-true, ltb-false, eqb-true, eq-eqb, ne_eqb}
use Rattle.rows.proofs.BoolLaws.{by_test, contra}
use Rattle.rows.proofs.IndexLaws.{all_at}
use Rattle.std.specs.Int.{sum_through, byte_worth}
use Rattle.rows.specs.Words.{all, build, same, zero_at}
use Rattle.rows.specs.Rows.{part}
use Rattle.rows.specs.Numbers.{low_first, low_bytes, bit_at}
use Rattle.rows.proofs.BuildLaws.{build_list, same_refl}
use Rattle.rows.proofs.RowLaws.{length_part, get_d_part}

pub length_low_bytes : (n x : ℕ) → length (low_bytes n x) ≡ n
unfolding low_bytes
length_low_bytes zero x = refl
length_low_bytes (suc n) x = ap suc (length_low_bytes n (x / 256))

-- a number that fits n bytes reads back
pub low_back : (n x : ℕ) → x < 256 ^ n → low_first (low_bytes n x) ≡ x
unfolding low_first low_bytes
low_back zero x h = omega arith
low_back (suc n) x h =
    let ih = low_back n (x / 256) (omega (arith, pow-suc 256 n)) in
    omega (arith, ih)

-- bytes are written again as they were read
pub bytes_back : (l : List ℕ) → ((i : ℕ) → get_or l i 0 < 256) → low_bytes (length l) (low_first l) ≡ l
unfolding low_first low_bytes
bytes_back [] h = refl
bytes_back (b ∷ bs) h =
    let small : b < 256 = h 0 in
    let low : (b + 256 * low_first bs) % 256 ≡ b = omega arith in
    let high : (b + 256 * low_first bs) / 256 ≡ low_first bs = omega arith in
    rw (low, high, bytes_back bs (λ i. h (suc i)))

-- every element is a byte
abbrev pub Bytes : List ℕ → Type 0
Bytes l = (i : ℕ) → get_or l i 0 < 256

-- so is every element of a part
pub bytes_part : (l : List ℕ) (at n : ℕ) → Bytes l → Bytes (part l at n)
unfolding part
bytes_part l at n b i = by_test (ltb i n)
    (λ y. rw (get_d_part l at n i (ltb-true i n y)) (b (at + i)))
    (λ f. rw (get_or-eq_default (part l at n) 0 {n = i} (omega (arith, length-take n (drop at l), ltb-false i n f))) (lit< tt))

-- the number in a part stands in the bytes of that part
pub part_back : (l : List ℕ) (at n : ℕ) → Bytes l → at + n ≤ length l → low_bytes n (low_first (part l at n)) ≡ part l at n
part_back l at n b h =
    ap (λ (k : ℕ). low_bytes k (low_first (part l at n))) (sym (length_part l at n h)) ∙ bytes_back (part l at n) (bytes_part l at n b)

-- the number in n bytes
low_small : (n : ℕ) (l : List ℕ) → Bytes l → low_first (take n l) < 256 ^ n
unfolding low_first
low_small zero l b = omega arith
low_small (suc n) [] b = omega (arith, pow-suc 256 n, low_small n [] b)
low_small (suc n) (x ∷ l) b =
    let small : x < 256 = b 0 in
    omega (arith, pow-suc 256 n, low_small n l (λ i. b (suc i)))

pub part_small : (f : List ℕ) (at n : ℕ) → Bytes f → low_first (part f at n) < 256 ^ n
unfolding part
part_small f at n b = low_small n (drop at f) (λ i. rw get_or-drop (b (at + i)))

-- bytes hold the number 0 just where they are zeros
low_zero : (l : List ℕ) → low_first l ≡ 0 → (k : ℕ) → get_or l k 0 ≡ 0
unfolding low_first
low_zero [] e k = refl
low_zero (b ∷ l) e zero = omega arith
low_zero (b ∷ l) e (suc k) = low_zero l (omega arith) k

zero_low : (l : List ℕ) → ((k : ℕ) → k < length l → get_or l k 0 ≡ 0) → low_first l ≡ 0
unfolding low_first
zero_low [] z = refl
zero_low (b ∷ l) z =
    let rest : low_first l ≡ 0 = zero_low l (λ k h. z (suc k) (omega arith)) in
    omega (arith, z 0 (omega arith))

-- eight bytes from `at` on, read as a number
module _ (l : List ℕ) (at : ℕ) (fits : at + 8 ≤ length l) where
  pub eight_zero : low_first (part l at 8) ≡ 0 → (k : ℕ) → at ≤ k → k < at + 8 → zero_at l k ≡ true
  unfolding zero_at
  eight_zero e k g h =
      let here : at + (k - at) ≡ k = omega arith in
      eq-eqb _ _ (ap (λ (j : ℕ). get_or l j 0) (sym here) ∙ sym (get_d_part l at 8 (k - at) (omega arith)) ∙ low_zero (part l at 8) e (k - at))

  pub eight_some : (low_first (part l at 8) ≡ 0 → ⊥) → all (zero_at l) (at + 8) ≡ false
  unfolding zero_at
  eight_some ne = contra _ false
      (λ z. absurd (ne (zero_low (part l at 8) (λ k h. get_d_part l at 8 k (omega (arith, length_part l at 8 fits)) ∙ eqb-true _ _ (all_at (zero_at l) (at + 8) (at + k) z (omega (arith, length_part l at 8 fits)))))))
      refl

-- two lists of 8 to 16 bytes whose first eight bytes hold one number, and whose last eight do
module _ (a b : List ℕ) (small-a : Bytes a) (small_b : Bytes b) (long : length a ≡ length b) (least : 8 ≤ length a) where
  -- byte k of both, among the eight bytes from `at` on
  byte_in : (at k : ℕ) → at + 8 ≤ length a → low_first (part a at 8) ≡ low_first (part b at 8) → at ≤ k → k < at + 8 → get_or a k 0 ≡ get_or b k 0
  byte_in at k h e g l =
      let here : at + (k - at) ≡ k = omega arith in
      let inside : k - at < 8 = omega arith in
      ap (λ (j : ℕ). get_or a j 0) (sym here)
      ∙ sym (get_d_part a at 8 (k - at) inside)
      ∙ ap (λ (p : List ℕ). get_or p (k - at) 0) (sym (part_back a at 8 small-a h) ∙ ap (low_bytes 8) e ∙ part_back b at 8 small_b (omega (arith, long)))
      ∙ get_d_part b at 8 (k - at) inside
      ∙ ap (λ (j : ℕ). get_or b j 0) here

  pub ends_low : length a ≤ 16 → low_first (part a 0 8) ≡ low_first (part b 0 8) → low_first (part a (length a - 8) 8) ≡ low_first (part b (length a - 8) 8) → same a b ≡ true
  ends_low most front back = rw (ext_get_or 0 a b long (λ k l. by_test (ltb k 8)
      (λ y. byte_in 0 k (omega arith) front (omega arith) (omega (arith, ltb-true k 8 y)))
      (λ n. byte_in (length a - 8) k (omega arith) back (omega (arith, ltb-false k 8 n)) (omega arith))))
      (same_refl b)

-- the two bytes of a part
pub two_bytes : (l : List ℕ) (at : ℕ) → at + 2 ≤ length l → part l at 2 ≡ get_or l at 0 ∷ get_or l (at + 1) 0 ∷ []
unfolding build
two_bytes l at h =
    sym (build_list (part l at 2) 2 (length_part l at 2 h))
    ∙ rw (get_d_part l at 2 0 (lit< tt), get_d_part l at 2 1 (lit< tt), add-zero)

-- the number is the sum of what each byte is worth at its place, as std has it
worth : List ℕ → ℕ → ℕ
worth l n = sum_through (λ i. byte_worth i (get_or l i 0)) n

worth_more : (n b : ℕ) (l : List ℕ) → worth (b ∷ l) (suc n) ≡ b + 256 * worth l n
unfolding worth
worth_more zero b l = omega arith
worth_more (suc n) b l =
    let x = get_or l (suc n) 0 in
    let p = 256 ^ suc n in
    let more : x * 256 ^ suc (suc n) ≡ 256 * (x * p) = rw (pow-suc 256 (suc n)) (omega (arith, mul_assoc x p 256)) in
    omega (arith, worth_more n b l, more)

pub low_worth : (n : ℕ) (l : List ℕ) → length l ≡ suc n → low_first l ≡ sum_through (λ i. byte_worth i (get_or l i 0)) n
unfolding low_first worth
low_worth n [] h = omega (arith, h)
low_worth zero (b ∷ []) h = omega arith
low_worth zero (b ∷ c ∷ l) h = omega (arith, h)
low_worth (suc n) (b ∷ l) h = omega (arith, worth_more n b l, low_worth n l (omega (arith, h)))

-- so what std reads of a part is the number in it
pub part_worth : (s : List ℕ) (at n : ℕ) (l : List ℕ) → at + suc n ≤ length s → l ≡ part s at (suc n) → sum_through (λ i. byte_worth i (get_or l i 0)) n ≡ low_first (part s at (suc n))
part_worth s at n l h e = rw e (sym (low_worth n (part s at (suc n)) (length_part s at (suc n) h)))

-- a number has no bit past its size, and its next bit is the next of its half
pub bit_past : (x n : ℕ) → x < 2 ^ n → bit_at x n ≡ false
unfolding bit_at
bit_past x n l =
    let none : x / 2 ^ n < 1 = (div-lt_iff_lt-mul (pow_pos n)).1 (subst (λ (y : ℕ). x < y) (sym (one-mul (2 ^ n))) l) in
    ne_eqb (x / 2 ^ n % 2) 1 (λ e. omega arith)

pub halved : (x n : ℕ) → x / 2 ^ suc n ≡ x / 2 ^ n / 2
halved x n = ap (λ (k : ℕ). x / k) (pow-suc 2 n) ∙ sym (div-div-eq-div-mul x (2 ^ n) 2)

-- its bits: those below the m-th are of what is added to a multiple of 2 ^ m, the others of the multiplied
bit_half : (x n : ℕ) → bit_at x (suc n) ≡ bit_at (x / 2) n
unfolding bit_at
bit_half x n = ap (λ (y : ℕ). eqb (y % 2) 1) (ap (λ (k : ℕ). x / k) (pow-succ' 2 n) ∙ sym (div-div-eq-div-mul x 2 (2 ^ n)))

bit_low : (m n b x : ℕ) → n < m → bit_at (b + 2 ^ m * x) n ≡ bit_at b n
unfolding bit_at
bit_low zero n b x l = absurd (omega arith)
bit_low (suc m) zero b x l =
    let even : 2 ^ suc m * x ≡ 2 * (2 ^ m * x) = rw pow-succ' (mul_assoc 2 (2 ^ m) x) in
    let parity : (b + 2 ^ suc m * x) / 2 ^ 0 % 2 ≡ b / 2 ^ 0 % 2 = omega (arith, even) in
    ap (λ (y : ℕ). eqb y 1) parity
bit_low (suc m) (suc n) b x l =
    let even : 2 ^ suc m * x ≡ 2 * (2 ^ m * x) = rw pow-succ' (mul_assoc 2 (2 ^ m) x) in
    let half : (b + 2 ^ suc m * x) / 2 ≡ b / 2 + 2 ^ m * x = omega (arith, even) in
    bit_half (b + 2 ^ suc m * x) n ∙ rw half (bit_low m n (b / 2) x (omega arith)) ∙ sym (bit_half b n)

bit_high : (m n b x : ℕ) → b < 2 ^ m → bit_at (b + 2 ^ m * x) (m + n) ≡ bit_at x n
bit_high zero n b x l =
    let all : b + 2 ^ 0 * x ≡ x = omega arith in
    let here : 0 + n ≡ n = omega arith in
    rw (all, here)
bit_high (suc m) n b x l =
    let even : 2 ^ suc m * x ≡ 2 * (2 ^ m * x) = rw pow-succ' (mul_assoc 2 (2 ^ m) x) in
    let half : (b + 2 ^ suc m * x) / 2 ≡ b / 2 + 2 ^ m * x = omega (arith, even) in
    let next : suc m + n ≡ suc (m + n) = omega arith in
    ap (bit_at (b + 2 ^ suc m * x)) next ∙ bit_half (b + 2 ^ suc m * x) (m + n) ∙ rw half (bit_high m n (b / 2) x (omega (arith, pow-succ' 2 m)))

-- bit n of the number in bytes is bit n % 8 of byte n / 8
pub bit_in_byte : (l : List ℕ) → Bytes l → (n : ℕ) → bit_at (low_first l) n ≡ bit_at (get_or l (n / 8) 0) (n % 8)
unfolding low_first
bit_in_byte [] small n = bit_past 0 n (pow_pos n) ∙ sym (bit_past 0 (n % 8) (pow_pos (n % 8)))
bit_in_byte (b ∷ l) small n = by_test (ltb n 8)
    (λ y. let low = ltb-true n 8 y in
    let first : n / 8 ≡ 0 = omega arith in
    let same_bit : n % 8 ≡ n = omega arith in
    rw (first, same_bit) (bit_low 8 n b (low_first l) low))
    (λ f. let high = ltb-false n 8 f in
    let on : n ≡ 8 + (n - 8) = omega arith in
    let next : n / 8 ≡ suc ((n - 8) / 8) = omega arith in
    let same_bit : n % 8 ≡ (n - 8) % 8 = omega arith in
    ap (bit_at (b + 256 * low_first l)) on ∙ bit_high 8 (n - 8) b (low_first l) (small 0) ∙ bit_in_byte l (λ i. small (suc i)) (n - 8) ∙ rw (next, same_bit))
