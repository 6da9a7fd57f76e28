-- As many different strings in one name as the lock table has rows, and no more.
use Prim.Native.Nat.{ℕ, zero, suc, ◌≤◌, ◌<◌}
use native.Mathlib.Omega.{arith}
use mathlib.Core.Path.{◌≡◌, sym, ◌∙◌}
use mathlib.Core.Bool.{true, false, cond}
use mathlib.Core.List.{List}
use lib.Dec.{eqb, ltb}
use borrow.Author.Tests.{eq-eqb, ne_eqb, lt-ltb, le-ltb}
use Rattle.rows.proofs.BoolLaws.{by_eq, both}
use Rattle.rows.specs.Rows.{row}
use Rattle.terms.specs.declared.LockString.{LockString}
use Rattle.terms.specs.Strings.{same_string}
use Rattle.terms.proofs.StringLaws.{same_string_sym, same_string_trans}
use Rattle.locks.specs.Table.{row_count}
use Rattle.locks.specs.Holding.{has}
use Rattle.terms.proofs.TableLaws.{holds_is}
use Rattle.locks.specs.Row.{lock_rows}
use Rattle.locks.proofs.HoldingLaws.{row_by, has_row}
use Rattle.station.specs.State.{place_string, is_listed, listed}
use Rattle.station.proofs.GoodLaws.{Good}
use Rattle.station.proofs.ListedLaws.{listed_same, below_listed, below_one}

-- numbers below m that go to different numbers below n are no more than n
pub no_more : (m n : ℕ) (f : ℕ → ℕ) → ((i : ℕ) → i < m → f i < n) → ((i j : ℕ) → i < m → j < m → f i ≡ f j → i ≡ j) → m ≤ n
no_more zero n f inside one = omega arith
no_more (suc m) zero f inside one = absurd (omega (arith, inside m (omega arith)))
no_more (suc m) (suc n) f inside one = let rest = no_more m n g g_inside g_one in omega (arith, rest)
  where
    -- whoever goes to n goes where the last one goes
    g : ℕ → ℕ
    g i = cond (eqb (f i) n) (f m) (f i)

    at_n : (i : ℕ) → f i ≡ n → g i ≡ f m
    at_n i e = rw (eq-eqb (f i) n e)

    off_n : (i : ℕ) → (f i ≡ n → ⊥) → g i ≡ f i
    off_n i ne = rw (ne_eqb (f i) n ne)

    last_apart : (i : ℕ) → i < m → f i ≡ f m → ⊥
    last_apart i b e = omega (arith, one i m (omega arith) (omega arith) e)

    g_inside : (i : ℕ) → i < m → g i < n
    g_inside i b = by_eq (f i) n
        (λ e. by_eq (f m) n
        (λ d. absurd (last_apart i b (e ∙ sym d)))
        (λ d. rw (at_n i e) (omega (arith, inside m (omega arith)))))
        (λ ne. rw (off_n i ne) (omega (arith, inside i (omega arith))))

    g_one : (i j : ℕ) → i < m → j < m → g i ≡ g j → i ≡ j
    g_one i j b c e = by_eq (f i) n
        (λ p. by_eq (f j) n
        (λ q. one i j (omega arith) (omega arith) (p ∙ sym q))
        (λ q. absurd (last_apart j c (sym (off_n j q) ∙ sym e ∙ at_n i p))))
        (λ p. by_eq (f j) n
        (λ q. absurd (last_apart i b (sym (off_n i p) ∙ e ∙ at_n j q)))
        (λ q. one i j (omega arith) (omega arith) (sym (off_n i p) ∙ e ∙ off_n j q)))

-- m strings, no two the same, that are all held in one name
pub held_few : (t : List ℕ) (k m : ℕ) (z : ℕ → LockString) → ((i : ℕ) → i < m → has t k (z i) ≡ true) → ((i j : ℕ) → i < m → j < m → same_string (z i) (z j) ≡ true → i ≡ j) → m ≤ row_count t
held_few t k m z held one = no_more m (row_count t) (λ i. row_by t k (z i))
    (λ i b. (has_row t k (z i) (held i b)).0)
    (λ i j b c e. one i j b c (same_row i j b c e))
  where
    same_row : (i j : ℕ) → i < m → j < m → row_by t k (z i) ≡ row_by t k (z j) → same_string (z i) (z j) ≡ true
    same_row i j b c e =
        let p = (holds_is lock_rows (z i) _ (has_row t k (z i) (held i b)).1.held).string in
        let q = (holds_is lock_rows (z j) _ (has_row t k (z j) (held j c)).1.held).string in
        same_string_trans (z i) _ (z j) (same_string_sym _ (z i) p) (rw e q)

-- a list that is held whole, and one string more: they fit into the rows of the table
pub list_fits : {n : ℕ} {l : List ℕ} (g : Good n l) (t : List ℕ) (k : ℕ) (x : LockString) → ((y : LockString) → is_listed l y ≡ true → has t k y ≡ true) → has t k x ≡ true → is_listed l x ≡ false → listed l < row_count t
list_fits {n} {l} g t k x all_held x_held new = let few = held_few t k (suc (listed l)) z z_held z_one in omega (arith, few)
  where
    z : ℕ → LockString
    z i = cond (ltb i (listed l)) (place_string (row 14 l i)) x

    below : (i : ℕ) → i < listed l → z i ≡ place_string (row 14 l i)
    below i b = rw (lt-ltb i (listed l) b)

    last : (i : ℕ) → listed l ≤ i → z i ≡ x
    last i b = rw (le-ltb i (listed l) b)

    z_held : (i : ℕ) → i < suc (listed l) → has t k (z i) ≡ true
    z_held i b = by_eq i (listed l)
        (λ e. rw (last i (omega arith)) x_held)
        (λ ne. rw (below i (omega arith)) (all_held _ (below_listed g i (omega arith))))

    not_new : (i : ℕ) → i < listed l → same_string (place_string (row 14 l i)) x ≡ true → ⊥
    not_new i b s = both (sym (listed_same l _ x s) ∙ below_listed g i b) new

    z_one : (i j : ℕ) → i < suc (listed l) → j < suc (listed l) → same_string (z i) (z j) ≡ true → i ≡ j
    z_one i j b c s = by_eq i (listed l)
        (λ p. by_eq j (listed l)
        (λ q. p ∙ sym q)
        (λ q. absurd (not_new j (omega arith) (same_string_sym x _ (rw (last i (omega arith), below j (omega arith)) at s)))))
        (λ p. by_eq j (listed l)
        (λ q. absurd (not_new i (omega arith) (rw (below i (omega arith), last j (omega arith)) at s)))
        (λ q. below_one g i j (omega arith) (omega arith) (rw (below i (omega arith), below j (omega arith)) at s)))
