-- The laws of marks: what a loop over rows knows that marks the hash of each row's key, stated once for any hash.
use Prim.Native.Nat.{ℕ, ◌+◌, ◌*◌, ◌/◌, ◌%◌, ◌^◌, ◌<◌, max}
use native.Mathlib.Nat.{not-suc-le-zero, div_self}
use native.Mathlib.Omega.{arith}
use mathlib.Core.Path.{◌≡◌, sym, ap, ◌∙◌, subst}
use mathlib.Core.Bool.{Bool, true, false}
use mathlib.Core.List.{List}
use lib.Arith.{digits_mod}
use lib.Bits.{bit_or, or_step, or_shr}
use lib.ListN.{length, get_or, set, length-set}
use lib.Pow.{pow_pos}
use lib.Seq.{get_or-set_same, get_or-set_other}
use borrow.Author.Tests.{eqb-true, eq-eqb}
use Rattle.rows.proofs.BoolLaws.{by_test, by_eq, both}
use Rattle.rows.proofs.IndexLaws.{none_from}
use Rattle.rows.specs.Words.{any}
use Rattle.rows.specs.Numbers.{bit_at}
use Rattle.rows.specs.Marks.{marked, marking}

-- the lowest bit of `a or b`, and bit j
or_odd : (a b : ℕ) → bit_or a b % 2 ≡ max (a % 2) (b % 2)
or_odd a b =
    let low : max (a % 2) (b % 2) < 2 = omega arith in
    ap (λ (x : ℕ). x % 2) (or_step a b) ∙ digits_mod (bit_or (a / 2) (b / 2)) low

or_bit : (a b j : ℕ) → bit_or a b / 2 ^ j % 2 ≡ max (a / 2 ^ j % 2) (b / 2 ^ j % 2)
or_bit a b j = ap (λ (x : ℕ). x % 2) (or_shr a b j) ∙ or_odd (a / 2 ^ j) (b / 2 ^ j)

or_keeps : (a b j : ℕ) → bit_at a j ≡ true → bit_at (bit_or a b) j ≡ true
unfolding bit_at
or_keeps a b j h = let odd : a / 2 ^ j % 2 ≡ 1 = eqb-true _ _ h in eq-eqb (bit_or a b / 2 ^ j % 2) 1 (omega (arith, or_bit a b j))

or_sets : (a j : ℕ) → bit_at (bit_or a (2 ^ j)) j ≡ true
unfolding bit_at
or_sets a j =
    let one : 2 ^ j / 2 ^ j % 2 ≡ 1 = ap (λ (x : ℕ). x % 2) (div_self (pow_pos j)) in
    eq-eqb (bit_or a (2 ^ j) / 2 ^ j % 2) 1 (omega (arith, or_bit a (2 ^ j) j))

-- what is marked is marked, and a mark stays
module _ (map : List ℕ) (h : ℕ) (inside : h / 32 < length map) where
  abbrev word : ℕ
  word = bit_or (get_or map (h / 32) 0) (2 ^ (h % 32))

  here : get_or (set map (h / 32) word) (h / 32) 0 ≡ word
  here = get_or-set_same map (h / 32) word 0 inside

  pub mark_here : marked (marking map h) h ≡ true
  unfolding marked marking
  mark_here = ap (λ (a : ℕ). bit_at a (h % 32)) here ∙ or_sets (get_or map (h / 32) 0) (h % 32)

  pub mark_stays : (g : ℕ) → marked map g ≡ true → marked (marking map h) g ≡ true
  unfolding marked marking
  mark_stays g m = by_eq (g / 32) (h / 32)
      (λ (e : g / 32 ≡ h / 32). ap (λ (k : ℕ). bit_at (get_or (set map (h / 32) word) k 0) (g % 32)) e ∙ ap (λ (a : ℕ). bit_at a (g % 32)) here ∙ or_keeps (get_or map (h / 32) 0) (2 ^ (h % 32)) (g % 32) (ap (λ (k : ℕ). bit_at (get_or map k 0) (g % 32)) (sym e) ∙ m))
      (λ ne. ap (λ (a : ℕ). bit_at a (g % 32)) (get_or-set_other map (h / 32) (g / 32) word 0 ne) ∙ m)

-- the invariant of a loop that marks the hash of each row, in a map of n words: below i, all are marked
abbrev pub Marked : ℕ → (ℕ → ℕ) → List ℕ → ℕ → Type 0
Marked n of map i = (length map ≡ n) × ((j : ℕ) → j < i → marked map (of j) ≡ true)

module _ (n : ℕ) (of : ℕ → ℕ) (map : List ℕ) where
  pub mark_starts : length map ≡ n → Marked n of map 0
  mark_starts long = (long, λ j l. absurd (not-suc-le-zero l))

  -- row i, with the hash h, is marked
  pub mark_adds : {i h : ℕ} {map' : List ℕ} → Marked n of map i → h ≡ of i → h < 32 * n → map' ≡ marking map h → Marked n of map' (i + 1)
  unfolding marking
  mark_adds {i} {h} {map'} (long, m) e low is = subst (λ (l : List ℕ). Marked n of l (i + 1)) (sym is) (simp length-set long, each)
    where
      inside : h / 32 < length map
      inside = omega arith

      each : (j : ℕ) → j < i + 1 → marked (marking map h) (of j) ≡ true
      each j l = by_eq j i
          (λ (q : j ≡ i). subst (λ (k : ℕ). marked (marking map h) k ≡ true) (e ∙ ap of (sym q)) (mark_here map h inside))
          (λ ne. mark_stays map h inside (of j) (m j (omega arith)))

  -- a hash without a mark is new: p holds at no row below i, where p holds only at rows with that hash
  pub unmarked_new : {i : ℕ} → Marked n of map i → (p : ℕ → Bool) (h : ℕ) → ((j : ℕ) → j < i → p j ≡ true → of j ≡ h) → marked map h ≡ false → any p i ≡ false
  unmarked_new {i} (long, m) p h one new = none_from p i (λ j l. by_test (p j)
      (λ y. both (m j l) (ap (marked map) (one j l y) ∙ new))
      (λ n. n))
