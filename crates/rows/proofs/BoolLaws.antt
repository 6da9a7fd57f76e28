-- A test and what it tells.
use Prim.Native.Nat.{ℕ, ◌<◌}
use mathlib.Core.Path.{◌≡◌, refl, sym, ◌∙◌}
use mathlib.Core.Bool.{Bool, true, false, cond, not, ◌&&◌, ◌||◌, true≢false}
use lib.Dec.{eqb}
use borrow.Author.Tests.{eqb-true, eqb-false, eq-eqb, not-true, not-false}

-- by cases on a test, with its equation
pub by_test {ℓ} : {P : Type ℓ} (b : Bool) → (b ≡ true → P) → (b ≡ false → P) → P
by_test true y n = y refl
by_test false y n = n refl

-- by whether two numbers are equal
pub by_eq {ℓ} : {P : Type ℓ} (i j : ℕ) → (i ≡ j → P) → ((i ≡ j → ⊥) → P) → P
by_eq i j y n = by_test (eqb i j) (λ t. y (eqb-true i j t)) (λ f. n (eqb-false i j f))

-- a test cannot both hold and fail
pub both {ℓ} : {P : Type ℓ} {b : Bool} → b ≡ true → b ≡ false → P
both t f = absurd (true≢false (sym t ∙ f))

-- what code's test of an answer tells of what the answer is
pub passed : {r b : Bool} → r ≡ b → not r ≡ false → b ≡ true
passed {r} e h = sym e ∙ not-false r h

pub refused : {r b : Bool} → r ≡ b → not r ≡ true → b ≡ false
refused {r} e h = sym e ∙ not-true r h

-- the parts of a conjunction
pub and_left : (a b : Bool) → (a && b) ≡ true → a ≡ true
and_left true b h = refl
and_left false b h = h

pub and_right : (a b : Bool) → (a && b) ≡ true → b ≡ true
and_right true b h = h
and_right false b h = both h refl

pub and_both : {a b : Bool} → a ≡ true → b ≡ true → (a && b) ≡ true
and_both x y = rw (x, y)

-- the other part of a disjunction
pub or_rest : (a b : Bool) → (a || b) ≡ true → a ≡ false → b ≡ true
or_rest true b h f = both refl f
or_rest false b h f = h

pub or_from : (a b : Bool) → (a ≡ false → b ≡ true) → (a || b) ≡ true
or_from true b f = refl
or_from false b f = f refl

-- a conjunction with a part that fails
pub and_fails : (a b : Bool) → b ≡ false → (a && b) ≡ false
and_fails true b f = f
and_fails false b f = refl

-- a test that cannot hold
pub refuted : (b : Bool) → (b ≡ true → ⊥) → false ≡ b
refuted true f = absurd (f refl)
refuted false f = refl

-- a test that holds where another does, and one that fails where another does
pub contra : (a b : Bool) → (a ≡ true → b ≡ true) → b ≡ false → a ≡ false
contra a b f n = by_test a (λ y. both (f y) n) (λ m. m)

-- two tests that imply each other
pub iff : (a b : Bool) → (a ≡ true → b ≡ true) → (b ≡ true → a ≡ true) → a ≡ b
iff a b f g = by_test b (λ y. g y ∙ sym y) (λ n. contra a b f n ∙ sym n)

-- what both sides of a choice are below
pub either : {n : ℕ} (b : Bool) (k m : ℕ) → k < n → m < n → cond b k m < n
either true k m l h = l
either false k m l h = h

-- equality of numbers is tested either way round
pub eqb_sym : (i j : ℕ) → eqb i j ≡ eqb j i
eqb_sym i j = iff (eqb i j) (eqb j i) (λ y. eq-eqb j i (sym (eqb-true i j y))) (λ y. eq-eqb i j (sym (eqb-true j i y)))
