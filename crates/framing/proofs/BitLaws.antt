-- The laws of specs/Bits.antt: bits and the numbers that they are, bits of bytes, and bytes that hold bits.
use Prim.Native.Nat.{ℕ, zero, suc, ◌+◌, ◌-◌, ◌*◌, ◌/◌, ◌%◌, ◌^◌, ◌<◌, ◌≤◌}
use native.Mathlib.Nat.{pow-suc, zero-add, suc-add, mul_assoc, div-one, not-suc-le-zero, le_of_suc-le-suc}
use native.Mathlib.Numerals.{add-one}
use native.Mathlib.Omega.{arith}
use mathlib.Core.Path.{◌≡◌, refl, sym, ap, ◌∙◌}
use mathlib.Core.Bool.{Bool, true, false}
use mathlib.Core.List.{List, [], ◌∷◌, ◌++◌, append-nil, append_assoc}
use lib.Dec.{eqb, leb, ltb}
use lib.Pow.{shr-shr, pow_mono}
use lib.ListN.{length, take, drop, get_or, length-append, length-take, length-drop, take-append-drop, get_or-append}
use lib.Seq.{take_all, take-suc, take-append-le, take-append-add, take_at, drop_at, drop-drop, drop-cons, drop-nil, take-nil, length-take-le, get_or-append-add}
use borrow.Author.Tests.{eqb-true, eqb-false, leb-true, leb-false, ltb-true, ltb-false, eq-eqb, ne_eqb}
use Rattle.rows.proofs.BoolLaws.{by_test}
use Rattle.rows.proofs.NumberLaws.{Bytes}
use Rattle.framing.specs.Bits.{odd, bits_of, to_bits, bit, value, bytes_for, packed, pack}
use Rattle.framing.specs.Check.{check_bytes}
use Rattle.framing.specs.Frame.{content}

-- ---- bits of a number
pub length_bits_of : (n v : ℕ) → length (bits_of n v) ≡ n
unfolding bits_of
length_bits_of zero v = refl
length_bits_of (suc n) v = ap suc (length_bits_of n (v / 2))

bit_lt : (b : Bool) → bit b < 2
unfolding bit
bit_lt true = omega arith
bit_lt false = omega arith

bit_odd : (x : ℕ) → bit (odd x) ≡ x % 2
unfolding bit odd
bit_odd x = by_test (eqb (x % 2) 1) (λ t. rw t (sym (eqb-true (x % 2) 1 t))) (λ f. rw f (sym (even (eqb-false (x % 2) 1 f))))
  where
    even : (x % 2 ≡ 1 → ⊥) → x % 2 ≡ 0
    even n = omega arith

pub value_bits_of : (n x : ℕ) → x < 2 ^ n → value (bits_of n x) ≡ x
unfolding value bits_of
value_bits_of zero x l = omega arith
value_bits_of (suc n) x l =
    let small : x / 2 < 2 ^ n = omega (arith, rw pow-suc at l) in
    rw (value_bits_of n (x / 2) small, bit_odd x) (omega arith)

take_bits : (bs : List Bool) (n : ℕ) → length bs ≤ n → take (length bs) (bits_of n (value bs)) ≡ bs
unfolding value bits_of odd bit
take_bits [] n l = refl
take_bits (b ∷ bs) zero l = absurd (not-suc-le-zero l)
take_bits (b ∷ bs) (suc n) l =
    ap (λ (h : Bool). h ∷ take (length bs) (bits_of n ((value bs * 2 + bit b) / 2))) (low b)
    ∙ ap (λ (v : ℕ). b ∷ take (length bs) (bits_of n v)) (omega (arith, bit_lt b))
    ∙ ap (λ (t : List Bool). b ∷ t) (take_bits bs n (le_of_suc-le-suc l))
  where
    low : (b : Bool) → odd (value bs * 2 + bit b) ≡ b
    low true = eq-eqb ((value bs * 2 + 1) % 2) 1 (omega arith)
    low false = ne_eqb ((value bs * 2 + 0) % 2) 1 (λ (e : (value bs * 2 + 0) % 2 ≡ 1). omega arith)

-- bits by their number and their count
pub bits_value : (bs : List Bool) (n v : ℕ) → v ≡ value bs → n ≡ length bs → bits_of n v ≡ bs
bits_value bs n v e l =
    rw (e, l)
    (sym (take_all (length bs) (bits_of (length bs) (value bs)) (omega (arith, length_bits_of (length bs) (value bs)))) ∙ take_bits bs (length bs) (omega arith))

pub value_lt : (bs : List Bool) → value bs < 2 ^ length bs
unfolding value
value_lt [] = omega arith
value_lt (b ∷ bs) = rw pow-suc (omega (arith, value_lt bs, bit_lt b))

-- bits after other bits
pub bits_join : (m n a v : ℕ) → a < 2 ^ m → bits_of (m + n) (a + v * 2 ^ m) ≡ bits_of m a ++ bits_of n v
unfolding bits_of odd
bits_join zero n a v l =
    let none : 0 + n ≡ n = omega arith in
    let all : a + v * 1 ≡ v = omega arith in
    ap (λ (k : ℕ). bits_of k (a + v * 1)) none ∙ ap (bits_of n) all
bits_join (suc m) n a v l =
    let p : ℕ = 2 ^ m in
    let two : v * 2 ^ suc m ≡ v * p * 2 = rw pow-suc (sym (mul_assoc v (2 ^ m) 2)) in
    let half : (a + v * 2 ^ suc m) / 2 ≡ a / 2 + v * p = omega arith in
    let low : (a + v * 2 ^ suc m) % 2 ≡ a % 2 = omega arith in
    ap (λ (k : ℕ). bits_of k (a + v * 2 ^ suc m)) plus
    ∙ ap (λ (x : ℕ). eqb x 1 ∷ bits_of (m + n) ((a + v * 2 ^ suc m) / 2)) low
    ∙ ap (λ (x : ℕ). eqb (a % 2) 1 ∷ bits_of (m + n) x) half
    ∙ ap (λ (x : List Bool). eqb (a % 2) 1 ∷ x) (bits_join m n (a / 2) v (omega (arith, rw pow-suc at l)))
  where
    plus : suc m + n ≡ suc (m + n)
    plus = omega arith

pub bits_halves : (b : ℕ) → bits_of 8 b ≡ bits_of 4 (b % 16) ++ bits_of 4 (b / 16)
bits_halves b = ap (bits_of 8) whole ∙ bits_join 4 4 (b % 16) (b / 16) (omega arith)
  where
    whole : b ≡ b % 16 + b / 16 * 16
    whole = omega arith

-- ---- bits of bytes
pub to_bits_append : (xs ys : List ℕ) → to_bits (xs ++ ys) ≡ to_bits xs ++ to_bits ys
unfolding to_bits
to_bits_append [] ys = refl
to_bits_append (x ∷ xs) ys = ap (λ (l : List Bool). bits_of 8 x ++ l) (to_bits_append xs ys) ∙ sym (append_assoc (bits_of 8 x) (to_bits xs) (to_bits ys))

pub length_to_bits : (xs : List ℕ) → length (to_bits xs) ≡ 8 * length xs
unfolding to_bits
length_to_bits [] = refl
length_to_bits (x ∷ xs) = length-append (bits_of 8 x) (to_bits xs) ∙ omega (arith, length_bits_of 8 x, length_to_bits xs)

get_D_bits_of : (n x k : ℕ) → k < n → get_or (bits_of n x) k false ≡ odd (x / 2 ^ k)
unfolding bits_of
get_D_bits_of zero x k l = absurd (not-suc-le-zero l)
get_D_bits_of (suc n) x zero l = ap odd (sym (div-one x))
get_D_bits_of (suc n) x (suc k) l = get_D_bits_of n (x / 2) k (le_of_suc-le-suc l) ∙ ap odd (shr-shr x 1 k ∙ ap (λ (j : ℕ). x / 2 ^ j) (omega arith))

-- a bit by its place
pub bit_is : (s : List ℕ) (at : ℕ) → at < 8 * length s → get_or (to_bits s) at false ≡ odd (get_or s (at / 8) 0 / 2 ^ (at % 8))
unfolding to_bits
bit_is [] at l = absurd (not-suc-le-zero l)
bit_is (x ∷ s) at l = by_test (ltb at 8)
    (λ t. near (ltb-true at 8 t))
    (λ f. far (at - 8) (after (ltb-false at 8 f)) (bit_is s (at - 8) (inside (ltb-false at 8 f))))
  where
    near : at < 8 → get_or (bits_of 8 x ++ to_bits s) at false ≡ odd (get_or (x ∷ s) (at / 8) 0 / 2 ^ (at % 8))
    near h =
        let q : at / 8 ≡ 0 = omega arith in
        let r : at % 8 ≡ at = omega arith in
        get_or-append (bits_of 8 x) (to_bits s) false at (omega (arith, length_bits_of 8 x)) ∙ get_D_bits_of 8 x at h ∙ sym (rw (q, r))

    after : 8 ≤ at → at ≡ length (bits_of 8 x) + (at - 8)
    after h = omega (arith, length_bits_of 8 x)

    inside : 8 ≤ at → at - 8 < 8 * length s
    inside h = omega arith

    far : (k : ℕ) → at ≡ length (bits_of 8 x) + k → get_or (to_bits s) k false ≡ odd (get_or s (k / 8) 0 / 2 ^ (k % 8))
        → get_or (bits_of 8 x ++ to_bits s) at false ≡ odd (get_or (x ∷ s) (at / 8) 0 / 2 ^ (at % 8))
    far k e ih =
        let q : at / 8 ≡ suc (k / 8) = omega (arith, length_bits_of 8 x) in
        let r : at % 8 ≡ k % 8 = omega (arith, length_bits_of 8 x) in
        ap (λ (n : ℕ). get_or (bits_of 8 x ++ to_bits s) n false) e ∙ get_or-append-add (bits_of 8 x) (to_bits s) k false ∙ ih ∙ sym (rw (q, r))

-- one byte more
pub bits_more : (s : List ℕ) (i : ℕ) → i < length s → to_bits (take (i + 1) s) ≡ to_bits (take i s) ++ bits_of 8 (get_or s i 0)
unfolding to_bits
bits_more s i l =
    ap (λ (k : ℕ). to_bits (take k s)) (add-one i)
    ∙ ap to_bits (take-suc s i 0 l)
    ∙ to_bits_append (take i s) (get_or s i 0 ∷ [])
    ∙ ap (λ (b : List Bool). to_bits (take i s) ++ b) (append-nil (bits_of 8 (get_or s i 0)))

pub bits_rest : (s : List ℕ) (i : ℕ) → i < length s → to_bits s ≡ to_bits (take i s) ++ (bits_of 8 (get_or s i 0) ++ to_bits (drop (i + 1) s))
unfolding to_bits
bits_rest s i l =
    ap to_bits (sym (take-append-drop i s))
    ∙ to_bits_append (take i s) (drop i s)
    ∙ ap (λ (q : List ℕ). to_bits (take i s) ++ to_bits q) (drop-cons s i 0 l ∙ ap (λ (k : ℕ). get_or s i 0 ∷ drop k s) (sym (add-one i)))

-- a byte, bytes, and more bytes
pub content_bits : (user : ℕ) (d : List ℕ) → to_bits (content user d) ≡ bits_of 8 user ++ (to_bits d ++ to_bits (check_bytes (user ∷ d)))
unfolding to_bits content
content_bits user d = ap (λ (l : List Bool). bits_of 8 user ++ l) (to_bits_append d (check_bytes (user ∷ d)))

-- the bits from byte i on
pub drop_to_bits : (i : ℕ) (s : List ℕ) → drop (8 * i) (to_bits s) ≡ to_bits (drop i s)
unfolding to_bits
drop_to_bits zero s = refl
drop_to_bits (suc i) [] = drop-nil (8 * suc i)
drop_to_bits (suc i) (x ∷ s) =
    ap (λ (k : ℕ). drop k (bits_of 8 x ++ to_bits s)) eight
    ∙ sym (drop-drop (8 * i) 8 (bits_of 8 x ++ to_bits s))
    ∙ ap (drop (8 * i)) (drop_at (bits_of 8 x) (to_bits s) 8 (length_bits_of 8 x))
    ∙ drop_to_bits i s
  where
    eight : 8 * suc i ≡ 8 + 8 * i
    eight = omega arith

pub take_drop : {A : Type 0} (f k : ℕ) (l : List A) → take k (drop f l) ≡ drop f (take (f + k) l)
take_drop zero k l = rw zero-add
take_drop (suc f) k [] = take-nil k ∙ sym (ap (drop (suc f)) (take-nil (suc f + k)))
take_drop (suc f) k (x ∷ l) = take_drop f k l ∙ sym (ap (λ (n : ℕ). drop (suc f) (take n (x ∷ l))) (suc-add f k))

pub bytes_take : (n : ℕ) (l : List ℕ) → Bytes l → Bytes (take n l)
bytes_take zero l b i = omega arith
bytes_take (suc n) [] b i = omega arith
bytes_take (suc n) (x ∷ l) b zero = b 0
bytes_take (suc n) (x ∷ l) b (suc i) = bytes_take n l (λ j. b (suc j)) i

-- ---- bytes that hold bits
pub length_packed : (n : ℕ) (bs : List Bool) → length (packed n bs) ≡ n
unfolding packed
length_packed zero bs = refl
length_packed (suc n) bs = ap suc (length_packed n (drop 8 bs))

pub length_pack : (bs : List Bool) → length (pack bs) ≡ bytes_for (length bs)
unfolding pack
length_pack bs = length_packed (bytes_for (length bs)) bs

pub bytes_packed : (n : ℕ) (bs : List Bool) → Bytes (packed n bs)
unfolding packed
bytes_packed zero bs i = omega arith
bytes_packed (suc n) bs zero = omega (arith, value_lt (take 8 bs), pow_mono {i = length (take 8 bs)} {j = 8} (omega (arith, length-take 8 bs)))
bytes_packed (suc n) bs (suc i) = bytes_packed n (drop 8 bs) i

-- one byte more, at the end
pub packed_more : (i : ℕ) (c : List Bool) → packed (suc i) c ≡ packed i c ++ (value (take 8 (drop (8 * i) c)) ∷ [])
unfolding packed
packed_more zero c = refl
packed_more (suc i) c =
    ap (λ (l : List ℕ). value (take 8 c) ∷ l) (packed_more i (drop 8 c))
    ∙ ap (λ (l : List Bool). value (take 8 c) ∷ (packed i (drop 8 c) ++ (value (take 8 l) ∷ []))) (drop-drop (8 * i) 8 c ∙ ap (λ (k : ℕ). drop k c) eight)
  where
    eight : 8 + 8 * i ≡ 8 * suc i
    eight = omega arith

pub take_packed : (m n : ℕ) (c : List Bool) → m ≤ n → take m (packed n c) ≡ packed m c
unfolding packed
take_packed zero n c l = refl
take_packed (suc m) zero c l = absurd (not-suc-le-zero l)
take_packed (suc m) (suc n) c l = ap (λ (x : List ℕ). value (take 8 c) ∷ x) (take_packed m n (drop 8 c) (le_of_suc-le-suc l))

-- whole bytes and what follows: bits of bytes, packed, are the bytes
pub packed_bytes : (xs : List ℕ) (bs : List Bool) (n : ℕ) → Bytes xs → packed (length xs + n) (to_bits xs ++ bs) ≡ xs ++ packed n bs
unfolding to_bits packed
packed_bytes [] bs n b = ap (λ (k : ℕ). packed k bs) (zero-add n)
packed_bytes (x ∷ xs) bs n b =
    let q : List Bool = to_bits xs ++ bs in
    ap (λ (k : ℕ). packed k ((bits_of 8 x ++ to_bits xs) ++ bs)) plus
    ∙ ap (packed (suc (length xs + n))) (append_assoc (bits_of 8 x) (to_bits xs) bs)
    ∙ ap (λ (l : List Bool). value l ∷ packed (length xs + n) (drop 8 (bits_of 8 x ++ q))) (take_at (bits_of 8 x) q 8 (length_bits_of 8 x))
    ∙ ap (λ (l : List Bool). value (bits_of 8 x) ∷ packed (length xs + n) l) (drop_at (bits_of 8 x) q 8 (length_bits_of 8 x))
    ∙ ap (λ (v : ℕ). v ∷ packed (length xs + n) q) (value_bits_of 8 x (b 0))
    ∙ ap (λ (l : List ℕ). x ∷ l) (packed_bytes xs bs n (λ i. b (suc i)))
  where
    plus : length (x ∷ xs) + n ≡ suc (length xs + n)
    plus = omega arith

pub pack_to_bits : (xs : List ℕ) → Bytes xs → pack (to_bits xs) ≡ xs
unfolding pack bytes_for packed
pack_to_bits xs b =
    let size : (length (to_bits xs) + 7) / 8 ≡ length xs + 0 = omega (arith, length_to_bits xs) in
    ap (packed ((length (to_bits xs) + 7) / 8)) (sym (append-nil (to_bits xs)))
    ∙ ap (λ (n : ℕ). packed n (to_bits xs ++ [])) size
    ∙ packed_bytes xs [] 0 b
    ∙ append-nil xs

-- packed bits with any bytes after them: the bits are the first
read_packed : (n : ℕ) (bs : List Bool) (rest : List ℕ) → n ≡ bytes_for (length bs) → take (length bs) (to_bits (packed n bs ++ rest)) ≡ bs
unfolding to_bits packed bytes_for
read_packed zero [] rest e = refl
read_packed (suc n) [] rest e = absurd (nope e)
  where
    nope : suc n ≡ 0 → ⊥
    nope e = omega arith
read_packed zero (b ∷ bs) rest e = absurd (nope e)
  where
    nope : 0 ≡ (suc (length bs) + 7) / 8 → ⊥
    nope e = omega arith
read_packed (suc n) (b ∷ bs) rest e = by_test (leb 8 (length (b ∷ bs)))
    (λ t. long (leb-true 8 (length (b ∷ bs)) t) (read_packed n (drop 7 bs) rest (omega (arith, length-drop 7 bs))))
    (λ f. short (leb-false 8 (length (b ∷ bs)) f))
  where
    x : ℕ
    x = value (take 8 (b ∷ bs))

    y : List Bool
    y = to_bits (packed n (drop 8 (b ∷ bs)) ++ rest)

    long : 8 ≤ length (b ∷ bs) → take (length (drop 7 bs)) y ≡ drop 7 bs → take (length (b ∷ bs)) (bits_of 8 x ++ y) ≡ b ∷ bs
    long h ih =
        let same : bits_of 8 x ≡ take 8 (b ∷ bs) = bits_value (take 8 (b ∷ bs)) 8 x refl (sym (length-take-le 8 (b ∷ bs) h)) in
        let parts : length (b ∷ bs) ≡ length (bits_of 8 x) + length (drop 7 bs) = omega (arith, length_bits_of 8 x, length-drop 7 bs) in
        ap (λ (k : ℕ). take k (bits_of 8 x ++ y)) parts
        ∙ take-append-add (bits_of 8 x) y (length (drop 7 bs))
        ∙ ap (λ (l : List Bool). bits_of 8 x ++ l) ih
        ∙ ap (λ (l : List Bool). l ++ drop 7 bs) same
        ∙ take-append-drop 8 (b ∷ bs)

    short : length (b ∷ bs) < 8 → take (length (b ∷ bs)) (bits_of 8 x ++ y) ≡ b ∷ bs
    short h =
        take-append-le (length (b ∷ bs)) (bits_of 8 x) y (omega (arith, length_bits_of 8 x))
        ∙ ap (λ (l : List Bool). take (length (b ∷ bs)) (bits_of 8 (value l))) (take_all 8 (b ∷ bs) (omega arith))
        ∙ take_bits (b ∷ bs) 8 (omega arith)

pub read_pack : (bs : List Bool) (rest : List ℕ) → take (length bs) (to_bits (pack bs ++ rest)) ≡ bs
unfolding pack
read_pack bs rest = read_packed (bytes_for (length bs)) bs rest refl
