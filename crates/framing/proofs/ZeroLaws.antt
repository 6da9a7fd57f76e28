-- The laws of specs/Zeros.antt: bits one after the other, with their zeros put in and taken out.
use Prim.Native.Nat.{ℕ, suc, ◌+◌, ◌*◌, ◌<◌, ◌≤◌}
use native.Mathlib.Omega.{arith}
use mathlib.Core.Path.{◌≡◌, refl, ap}
use mathlib.Core.Bool.{Bool, true, false, cond}
use mathlib.Core.List.{List, [], ◌∷◌, ◌++◌}
use lib.Dec.{eqb}
use lib.ListN.{length}
use borrow.Author.Tests.{eqb-true, eqb-false, ne_eqb}
use Rattle.rows.proofs.BoolLaws.{by_test}
use Rattle.framing.specs.Zeros.{with_zeros, without_zeros}
use Rattle.framing.specs.Inner.{ones_after, run_after, sixths}

-- ---- zeros put in
pub with_append : (xs ys : List Bool) (k : ℕ) → with_zeros k (xs ++ ys) ≡ with_zeros k xs ++ with_zeros (ones_after k xs) ys
unfolding with_zeros ones_after
with_append [] ys k = refl
with_append (false ∷ xs) ys k = ap (λ (l : List Bool). false ∷ l) (with_append xs ys 0)
with_append (true ∷ xs) ys k = by_test (eqb k 4)
    (λ t. rw t (ap (λ (l : List Bool). true ∷ false ∷ l) (with_append xs ys 0)))
    (λ f. rw f (ap (λ (l : List Bool). true ∷ l) (with_append xs ys (k + 1))))

pub ones_append : (xs ys : List Bool) (k : ℕ) → ones_after k (xs ++ ys) ≡ ones_after (ones_after k xs) ys
unfolding ones_after
ones_append [] ys k = refl
ones_append (false ∷ xs) ys k = ones_append xs ys 0
ones_append (true ∷ xs) ys k = by_test (eqb k 4) (λ t. rw t (ones_append xs ys 0)) (λ f. rw f (ones_append xs ys (k + 1)))

less_five : (k : ℕ) → k < 5 → (k ≡ 4 → ⊥) → k + 1 < 5
less_five k l n = omega arith

pub ones_lt : (xs : List Bool) (k : ℕ) → k < 5 → ones_after k xs < 5
unfolding ones_after
ones_lt [] k l = l
ones_lt (false ∷ xs) k l = ones_lt xs 0 (omega arith)
ones_lt (true ∷ xs) k l = by_test (eqb k 4)
    (λ t. rw t (ones_lt xs 0 (omega arith)))
    (λ f. rw f (ones_lt xs (k + 1) (less_five k l (eqb-false k 4 f))))

-- at most one zero for every five bits
pub with_long : (xs : List Bool) (k : ℕ) → k < 5 → 5 * length (with_zeros k xs) ≤ 6 * length xs + k
unfolding with_zeros
with_long [] k l = omega arith
with_long (false ∷ xs) k l = omega (arith, with_long xs 0 (omega arith))
with_long (true ∷ xs) k l = by_test (eqb k 4)
    (λ t. rw t (fifth (eqb-true k 4 t) (with_long xs 0 (omega arith))))
    (λ f. rw f (omega (arith, with_long xs (k + 1) (less_five k l (eqb-false k 4 f)))))
  where
    fifth : k ≡ 4 → 5 * length (with_zeros 0 xs) ≤ 6 * length xs + 0 → 5 * suc (suc (length (with_zeros 0 xs))) ≤ 6 * suc (length xs) + k
    fifth e h = omega arith

-- ---- zeros taken out
pub without_append : (xs ys : List Bool) (k : ℕ) → without_zeros k (xs ++ ys) ≡ without_zeros k xs ++ without_zeros (run_after k xs) ys
unfolding without_zeros run_after
without_append [] ys k = refl
without_append (x ∷ xs) ys k = by_test (eqb k 5)
    (λ t. rw t (without_append xs ys 0))
    (λ f. rw f (ap (λ (l : List Bool). x ∷ l) (without_append xs ys (cond x (k + 1) 0))))

pub run_append : (xs ys : List Bool) (k : ℕ) → run_after k (xs ++ ys) ≡ run_after (run_after k xs) ys
unfolding run_after
run_append [] ys k = refl
run_append (x ∷ xs) ys k = by_test (eqb k 5) (λ t. rw t (run_append xs ys 0)) (λ f. rw f (run_append xs ys (cond x (k + 1) 0)))

pub sixths_append : (xs ys : List Bool) (k : ℕ) → sixths k (xs ++ ys) ≡ sixths k xs + sixths (run_after k xs) ys
unfolding sixths run_after
sixths_append [] ys k = omega arith
sixths_append (x ∷ xs) ys k = by_test (eqb k 5)
    (λ t. rw t (omega (arith, sixths_append xs ys 0)))
    (λ f. rw f (sixths_append xs ys (cond x (k + 1) 0)))

next_run : (x : Bool) (k : ℕ) → k ≤ 5 → (k ≡ 5 → ⊥) → cond x (k + 1) 0 ≤ 5
next_run true k l n = omega arith
next_run false k l n = omega arith

pub run_le : (xs : List Bool) (k : ℕ) → k ≤ 5 → run_after k xs ≤ 5
unfolding run_after
run_le [] k l = l
run_le (x ∷ xs) k l = by_test (eqb k 5)
    (λ t. rw t (run_le xs 0 (omega arith)))
    (λ f. rw f (run_le xs (cond x (k + 1) 0) (next_run x k l (eqb-false k 5 f))))

pub without_long : (xs : List Bool) (k : ℕ) → length (without_zeros k xs) ≤ length xs
unfolding without_zeros
without_long [] k = omega arith
without_long (x ∷ xs) k = by_test (eqb k 5)
    (λ t. rw t (omega (arith, without_long xs 0)))
    (λ f. rw f (omega (arith, without_long xs (cond x (k + 1) 0))))

-- what was put in is taken out again
pub without_with : (c : List Bool) (k : ℕ) → k < 5 → without_zeros k (with_zeros k c) ≡ c
unfolding with_zeros without_zeros
without_with [] k l = refl
without_with (false ∷ c) k l = rw (ne_eqb k 5 (λ (e : k ≡ 5). omega arith)) (ap (λ (q : List Bool). false ∷ q) (without_with c 0 (omega arith)))
without_with (true ∷ c) k l = by_test (eqb k 4)
    (λ t. rw t (five (eqb-true k 4 t) (without_with c 0 (omega arith))))
    (λ f. rw f (less (eqb-false k 4 f) (without_with c (k + 1))))
  where
    five : k ≡ 4 → without_zeros 0 (with_zeros 0 c) ≡ c → without_zeros k (true ∷ false ∷ with_zeros 0 c) ≡ true ∷ c
    five e ih = rw e (ap (λ (q : List Bool). true ∷ q) ih)

    less : (k ≡ 4 → ⊥) → (k + 1 < 5 → without_zeros (k + 1) (with_zeros (k + 1) c) ≡ c) → without_zeros k (true ∷ with_zeros (k + 1) c) ≡ true ∷ c
    less h ih = rw (ne_eqb k 5 (λ (e : k ≡ 5). omega arith)) (ap (λ (q : List Bool). true ∷ q) (ih (omega arith)))
