-- The laws of specs/Reading.antt's scan: the opening flag, and each turn of the search for the closing one.
use Prim.Native.Nat.{ℕ, suc, ◌+◌, ◌-◌, ◌*◌, ◌/◌, ◌%◌, ◌^◌, ◌<◌, ◌≤◌, min}
use native.Mathlib.Numerals.{add-one}
use native.Mathlib.Omega.{arith}
use mathlib.Core.Path.{◌≡◌, refl, sym, ap, ◌∙◌}
use mathlib.Core.Bool.{Bool, true, false, cond, ◌&&◌, not, true≢false}
use mathlib.Core.List.{List, [], ◌∷◌, ◌++◌, append-nil, append_assoc}
use lib.Dec.{eqb, leb, ltb}
use lib.ListN.{length, take, drop, get_or, length-take}
use lib.Seq.{slice, slice-cons, slice_empty, length-slice, take-suc, take-take, take-append-add, drop-append-le, take_at}
use borrow.Author.Tests.{ltb-true, ltb-false, eqb-true, eqb-false, leb-true, ne_eqb, le-leb, lt-leb}
use Rattle.rows.proofs.BoolLaws.{by_test, and_left, and_right}
use Rattle.framing.specs.Bits.{odd, bit, bits_of, to_bits, value}
use Rattle.framing.specs.Frame.{flag}
use Rattle.framing.specs.Reading.{starts, opens, ended, sevenOnes, stopped, scan}
use Rattle.framing.specs.Inner.{run_after, sixths}
use Rattle.framing.proofs.BitLaws.{length_bits_of, value_bits_of, take_drop}

-- ---- parts of bits
pub slice_snoc : (f t : ℕ) (l : List Bool) → f ≤ t → t < length l → slice f (t + 1) l ≡ slice f t l ++ (get_or l t false ∷ [])
slice_snoc f t l a b =
    ap (λ (n : ℕ). drop f (take n l)) (add-one t)
    ∙ ap (drop f) (take-suc l t false b)
    ∙ drop-append-le f (take t l) (get_or l t false ∷ []) (omega (arith, length-take t l))

pub take_slice : (f t k : ℕ) (l : List Bool) → f + k ≤ t → take k (slice f t l) ≡ slice f (f + k) l
take_slice f t k l h = take_drop f k (take t l) ∙ ap (drop f) (take-take (f + k) t l h)

-- ---- the opening flag
pub starts_is : (fs bs : List Bool) → starts fs bs ≡ true → take (length fs) bs ≡ fs
unfolding starts
starts_is [] bs h = refl
starts_is (f ∷ fs) [] h = absurd (true≢false (sym h))
starts_is (f ∷ fs) (b ∷ bs) h =
    ap (λ (x : Bool). x ∷ take (length fs) bs) (same f b (and_left (cond f b (not b)) (starts fs bs) h))
    ∙ ap (λ (l : List Bool). f ∷ l) (starts_is fs bs (and_right (cond f b (not b)) (starts fs bs) h))
  where
    same : (f b : Bool) → cond f b (not b) ≡ true → b ≡ f
    same true b e = e
    same false true e = sym e
    same false false e = refl

starts_short : (fs bs : List Bool) → length bs < length fs → starts fs bs ≡ false
starts_short fs bs l = by_test (starts fs bs) (λ t. absurd (long (starts_is fs bs t))) (λ f. f)
  where
    long : take (length fs) bs ≡ fs → ⊥
    long e = omega (arith, ap length e, length-take (length fs) bs)

flag_byte : (x : ℕ) (rest : List Bool) → x < 2 ^ 8 → starts flag (bits_of 8 x ++ rest) ≡ eqb x 126
unfolding starts flag bits_of odd value bit
flag_byte x rest l = by_test (eqb x 126)
    (λ t. rw (eqb-true x 126 t))
    (λ f. by_test (starts flag (bits_of 8 x ++ rest)) (λ t. absurd (eqb-false x 126 f (is (starts_is flag (bits_of 8 x ++ rest) t)))) (λ g. g ∙ sym f))
  where
    is : take 8 (bits_of 8 x ++ rest) ≡ flag → x ≡ 126
    is e = sym (value_bits_of 8 x l) ∙ ap value (sym (take_at (bits_of 8 x) rest 8 (length_bits_of 8 x)) ∙ e)

pub opens_past : (s : List ℕ) (n : ℕ) → length s < n / 8 + min 1 (n % 8) → false ≡ opens s n
unfolding opens
opens_past s n h = sym (rw (lt-leb n (8 * length s) (omega arith)))

pub opens_short : (s : List ℕ) (n : ℕ) → n < 8 → false ≡ opens s n
unfolding opens flag
opens_short s n h = sym (last (leb n (8 * length s)) (starts flag (take n (to_bits s))) (starts_short flag (take n (to_bits s)) (few h)))
  where
    last : (a b : Bool) → b ≡ false → (a && b) ≡ false
    last true b e = e
    last false b e = refl

    few : n < 8 → length (take n (to_bits s)) < 8
    few h = omega (arith, length-take n (to_bits s))

pub opens_by : (s : List ℕ) (n : ℕ) → n / 8 + min 1 (n % 8) ≤ length s → 8 ≤ n → get_or s 0 0 < 2 ^ 8 → eqb (get_or s 0 0) 126 ≡ opens s n
unfolding opens to_bits
opens_by [] n l h b = absurd (none l h)
  where
    none : n / 8 + min 1 (n % 8) ≤ 0 → 8 ≤ n → ⊥
    none l h = omega arith
opens_by (x ∷ s) n l h b =
    sym (rw (le-leb n (8 * suc (length s)) (omega arith))
    (ap (starts flag) (ap (λ (k : ℕ). take k (bits_of 8 x ++ to_bits s)) (rest h) ∙ take-append-add (bits_of 8 x) (to_bits s) (n - 8))
    ∙ flag_byte x (take (n - 8) (to_bits s)) b))
  where
    rest : 8 ≤ n → n ≡ length (bits_of 8 x) + (n - 8)
    rest h = omega (arith, length_bits_of 8 x)

pub opens_within : (s : List ℕ) (n : ℕ) → opens s n ≡ true → (8 ≤ n) × (n ≤ 8 * length s)
unfolding opens flag
opens_within s n h =
    let w : n ≤ 8 * length s = leb-true n (8 * length s) (and_left (leb n (8 * length s)) (starts flag (take n (to_bits s))) h) in
    (long (starts_is flag (take n (to_bits s)) (and_right (leb n (8 * length s)) (starts flag (take n (to_bits s))) h)), w)
  where
    long : take 8 (take n (to_bits s)) ≡ flag → 8 ≤ n
    long e = omega (arith, ap length e, length-take 8 (take n (to_bits s)), length-take n (to_bits s))

-- ---- the scan over bits without a sixth one
pub scan_quiet : (xs : List Bool) (k : ℕ) (since rest : List Bool) → k ≤ 5 → sixths k xs ≡ 0 → scan k since (xs ++ rest) ≡ scan (run_after k xs) (since ++ xs) rest
unfolding scan run_after sixths bit
scan_quiet [] k since rest l z = rw append-nil
scan_quiet (false ∷ xs) k since rest l z = by_test (eqb k 5)
    (λ t. rw (seven k l, t) (scan_quiet xs 0 (since ++ (false ∷ [])) rest (omega arith) (less (rw t at z)) ∙ ap (λ (q : List Bool). scan (run_after 0 xs) q rest) (append_assoc since (false ∷ []) xs)))
    (λ f. rw (seven k l, f) (scan_quiet xs 0 (since ++ (false ∷ [])) rest (omega arith) (rw f at z) ∙ ap (λ (q : List Bool). scan (run_after 0 xs) q rest) (append_assoc since (false ∷ []) xs)))
  where
    seven : (k : ℕ) → k ≤ 5 → eqb k 6 ≡ false
    seven k l = ne_eqb k 6 (λ (e : k ≡ 6). omega arith)

    less : 0 + sixths 0 xs ≡ 0 → sixths 0 xs ≡ 0
    less e = omega arith
scan_quiet (true ∷ xs) k since rest l z = by_test (eqb k 5)
    (λ t. absurd (never (rw t at z)))
    (λ f. rw (seven k l, f) (scan_quiet xs (k + 1) (since ++ (true ∷ [])) rest (next (eqb-false k 5 f)) (rw f at z) ∙ ap (λ (q : List Bool). scan (run_after (k + 1) xs) q rest) (append_assoc since (true ∷ []) xs)))
  where
    seven : (k : ℕ) → k ≤ 5 → eqb k 6 ≡ false
    seven k l = ne_eqb k 6 (λ (e : k ≡ 6). omega arith)

    never : 1 + sixths 0 xs ≡ 0 → ⊥
    never e = omega arith

    next : (k ≡ 5 → ⊥) → k + 1 ≤ 5
    next n = omega arith

-- ---- the scan, a bit at a time: the bits since the last flag are those from `from` to `at`
pub record Scanning (b : List Bool) (n from at ones : ℕ) : Type 0 where
  pub order : from ≤ at
  pub inside : at ≤ n
  pub opened : 8 ≤ from
  pub few : ones ≤ 6
  pub rest : scan ones (slice from at b) (slice at n b) ≡ scan 0 [] (slice 8 n b)

module _ (b : List Bool) (n from at ones : ℕ) (w : n ≤ length b) (s : Scanning b n from at ones) (l : at < n) where
  -- what is left starts with the bit at hand
  next : (x : Bool) → get_or b at false ≡ x → slice at n b ≡ x ∷ slice (at + 1) n b
  next x e = slice-cons at n b false l w ∙ ap (λ (y : Bool). y ∷ slice (suc at) n b) e ∙ ap (λ (k : ℕ). x ∷ slice k n b) (sym (add-one at))

  grown : (x : Bool) → get_or b at false ≡ x → slice from (at + 1) b ≡ slice from at b ++ (x ∷ [])
  grown x e = slice_snoc from at b s.order (omega (arith, w)) ∙ ap (λ (y : Bool). slice from at b ++ (y ∷ [])) e

  pub scan_seven : get_or b at false ≡ true → ones ≡ 6 → sevenOnes ≡ scan 0 [] (slice 8 n b)
  unfolding scan
  scan_seven e f = sym (ap (λ (o : ℕ). scan o (slice from at b) (true ∷ slice (at + 1) n b)) f) ∙ sym (ap (scan ones (slice from at b)) (next true e)) ∙ s.rest

  pub scan_one : get_or b at false ≡ true → (ones ≡ 6 → ⊥) → Scanning b n from (at + 1) (ones + 1)
  unfolding scan
  scan_one e f = record {
    order = omega (arith, s.order);
    inside = omega arith;
    opened = s.opened;
    few = lt f s.few;
    rest = ap (λ (q : List Bool). scan (ones + 1) q (slice (at + 1) n b)) (grown true e) ∙ sym (go (ne_eqb ones 6 f)) ∙ s.rest;
  }
    where
      lt : (ones ≡ 6 → ⊥) → ones ≤ 6 → ones + 1 ≤ 6
      lt f g = omega arith

      go : eqb ones 6 ≡ false → scan ones (slice from at b) (slice at n b) ≡ scan (ones + 1) (slice from at b ++ (true ∷ [])) (slice (at + 1) n b)
      go z = ap (scan ones (slice from at b)) (next true e) ∙ rw z

  pub scan_zero : get_or b at false ≡ false → (ones ≡ 6 → ⊥) → Scanning b n from (at + 1) 0
  unfolding scan
  scan_zero e f = record {
    order = omega (arith, s.order);
    inside = omega arith;
    opened = s.opened;
    few = omega arith;
    rest = ap (λ (q : List Bool). scan 0 q (slice (at + 1) n b)) (grown false e) ∙ sym (go (ne_eqb ones 6 f)) ∙ s.rest;
  }
    where
      go : eqb ones 6 ≡ false → scan ones (slice from at b) (slice at n b) ≡ scan 0 (slice from at b ++ (false ∷ [])) (slice (at + 1) n b)
      go z = ap (scan ones (slice from at b)) (next false e) ∙ rw z

  since_long : length (slice from at b) ≡ at - from
  since_long = length-slice from at b (omega (arith, w))

  pub scan_flag : get_or b at false ≡ false → ones ≡ 6 → at + 1 - from ≤ 8 → Scanning b n (at + 1) (at + 1) 0
  unfolding scan
  scan_flag e f g = record {
    order = omega arith;
    inside = omega arith;
    opened = omega (arith, s.order, s.opened);
    few = omega arith;
    rest = ap (λ (q : List Bool). scan 0 q (slice (at + 1) n b)) (slice_empty (at + 1) b) ∙ sym (go (le-leb (length (slice from at b)) 7 (omega (arith, since_long, s.order)))) ∙ s.rest;
  }
    where
      go : leb (length (slice from at b)) 7 ≡ true → scan ones (slice from at b) (slice at n b) ≡ scan 0 [] (slice (at + 1) n b)
      go z = ap (scan ones (slice from at b)) (next false e) ∙ ap (λ (o : ℕ). scan o (slice from at b) (false ∷ slice (at + 1) n b)) f ∙ rw z

  pub scan_stop : get_or b at false ≡ false → ones ≡ 6 → 8 < at + 1 - from → stopped (slice from (at + 1 - 8) b) ≡ scan 0 [] (slice 8 n b)
  unfolding scan
  scan_stop e f g = sym (go (lt-leb (length (slice from at b)) 7 (omega (arith, since_long, s.order)))) ∙ s.rest
    where
      kept : take (length (slice from at b) - 7) (slice from at b) ≡ slice from (at + 1 - 8) b
      kept = take_slice from at (length (slice from at b) - 7) b (omega (arith, since_long, s.order, g)) ∙ ap (λ (k : ℕ). slice from k b) (places since_long s.order g)
        where
          places : length (slice from at b) ≡ at - from → from ≤ at → 8 < at + 1 - from → from + (length (slice from at b) - 7) ≡ at + 1 - 8
          places p q r = omega arith

      go : leb (length (slice from at b)) 7 ≡ false → scan ones (slice from at b) (slice at n b) ≡ stopped (slice from (at + 1 - 8) b)
      go z = ap (scan ones (slice from at b)) (next false e) ∙ ap (λ (o : ℕ). scan o (slice from at b) (false ∷ slice (at + 1) n b)) f ∙ rw z (ap stopped kept)

-- a zero that ends a flag after bits; another zero
module _ (b : List Bool) (n from at ones : ℕ) (w : n ≤ length b) (s : Scanning b n from at ones) (l : at < n) (e : get_or b at false ≡ false) where
  pub scan_closes : (eqb ones 6 && ltb 8 (at + 1 - from)) ≡ true → (stopped (slice from (at + 1 - 8) b) ≡ scan 0 [] (slice 8 n b)) × ((from ≤ at + 1 - 8) × (at + 1 - 8 ≤ n))
  scan_closes t =
      let six : ones ≡ 6 = eqb-true ones 6 (and_left (eqb ones 6) (ltb 8 (at + 1 - from)) t) in
      let far : 8 < at + 1 - from = ltb-true 8 (at + 1 - from) (and_right (eqb ones 6) (ltb 8 (at + 1 - from)) t) in
      (scan_stop b n from at ones w s l e six far, (omega arith, omega arith))

  pub scan_after : (eqb ones 6 && ltb 8 (at + 1 - from)) ≡ false → Scanning b n (cond (eqb ones 6) (at + 1) from) (at + 1) 0
  scan_after t = by_test (eqb ones 6)
      (λ y. rw y (scan_flag b n from at ones w s l e (eqb-true ones 6 y) (ltb-false 8 (at + 1 - from) (rw y at t))))
      (λ f. rw f (scan_zero b n from at ones w s l e (eqb-false ones 6 f)))

pub scan_ends : (b : List Bool) (n from at ones : ℕ) → Scanning b n from at ones → n ≤ at → ended ≡ scan 0 [] (slice 8 n b)
unfolding scan
scan_ends b n from at ones s h =
    sym (ap (scan ones (slice from at b)) (ap (λ (k : ℕ). slice k n b) (same s.inside h) ∙ slice_empty n b)) ∙ s.rest
  where
    same : at ≤ n → n ≤ at → at ≡ n
    same p q = omega arith
