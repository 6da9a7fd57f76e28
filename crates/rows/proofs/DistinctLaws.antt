-- n numbers below n of which no two are equal are all the numbers below n.
use Prim.Native.Nat.{ℕ, zero, suc, ◌-◌, ◌<◌}
use native.Mathlib.Nat.{not-suc-le-zero}
use native.Mathlib.Omega.{arith}
use mathlib.Core.Path.{◌≡◌}
use mathlib.Core.Bool.{cond}
use lib.Dec.{eqb, ltb}
use borrow.Author.Tests.{eqb-true, eqb-false, ltb-true, ltb-false}
use Rattle.rows.proofs.BoolLaws.{by_test}
use Rattle.rows.proofs.IndexLaws.{first_found, none_at}
use Rattle.rows.specs.Words.{any, first}

-- numbers without v: those above it come down by one
without : ℕ → ℕ → ℕ
without v x = cond (ltb v x) (x - 1) x

without_below : (v x n : ℕ) → (x ≡ v → ⊥) → v < suc n → x < suc n → without v x < n
unfolding without
without_below v x n ne lv lx = by_test (ltb v x)
    (λ y. rw y (omega (arith, ltb-true v x y)))
    (λ m. rw m (omega (arith, ltb-false v x m)))

without_one : (v x y : ℕ) → (x ≡ v → ⊥) → (y ≡ v → ⊥) → without v x ≡ without v y → x ≡ y
unfolding without
without_one v x y nx ny e = by_test (ltb v x)
    (λ p. by_test (ltb v y)
    (λ q. let d : x - 1 ≡ y - 1 = rw (p, q) at e in omega (arith, ltb-true v x p, ltb-true v y q))
    (λ q. let d : x - 1 ≡ y = rw (p, q) at e in absurd (omega (arith, ltb-true v x p, ltb-false v y q))))
    (λ p. by_test (ltb v y)
    (λ q. let d : x ≡ y - 1 = rw (p, q) at e in absurd (omega (arith, ltb-false v x p, ltb-true v y q)))
    (λ q. let d : x ≡ y = rw (p, q) at e in d))

-- of the first n numbers no two are equal
abbrev pub Distinct : (ℕ → ℕ) → ℕ → Type 0
Distinct at n = (a b : ℕ) → a < b → b < n → at a ≡ at b → ⊥

-- n + 1 numbers below n are not distinct
too_many : (n : ℕ) (at : ℕ → ℕ) → ((k : ℕ) → k < suc n → at k < n) → Distinct at (suc n) → ⊥
too_many zero at low apart = not-suc-le-zero (low 0 (omega arith))
too_many (suc n) at low apart = too_many n (λ k. without (at (suc n)) (at k))
    (λ k l. without_below (at (suc n)) (at k) n (apart k (suc n) l (omega arith)) (low (suc n) (omega arith)) (low k (omega arith)))
    (λ a b l m e. apart a b l (omega arith) (without_one (at (suc n)) (at a) (at b) (apart a (suc n) (omega arith) (omega arith)) (apart b (suc n) m (omega arith)) e))

-- so n distinct numbers below n are all of them
missing : (n : ℕ) (at : ℕ → ℕ) → ((k : ℕ) → k < n → at k < n) → Distinct at n → (i : ℕ) → i < n → ((k : ℕ) → k < n → at k ≡ i → ⊥) → ⊥
missing zero at low apart i l none = not-suc-le-zero l
missing (suc n) at low apart i l none = too_many n (λ k. without i (at k))
    (λ k m. without_below i (at k) n (none k m) l (low k m))
    (λ a b m h e. apart a b m h (without_one i (at a) (at b) (none a (omega arith)) (none b h) e))

-- where number i stands among them
pub record Stands (n : ℕ) (at : ℕ → ℕ) (i : ℕ) : Type 0 where
  pub place : ℕ
  pub inside : place < n
  pub here : at place ≡ i

pub stands : (n : ℕ) (at : ℕ → ℕ) → ((k : ℕ) → k < n → at k < n) → Distinct at n → (i : ℕ) → i < n → Stands n at i
stands n at low apart i l = by_test (any (λ k. eqb (at k) i) n)
    (λ y. let found = first_found (λ k. eqb (at k) i) n y in record { place = first (λ k. eqb (at k) i) n; inside = found.0; here = eqb-true _ _ found.1 })
    (λ m. absurd (missing n at low apart i l (λ k b. eqb-false (at k) i (none_at (λ j. eqb (at j) i) n k m b))))
