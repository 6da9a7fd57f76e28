-- Size codes, and what holds of every one by a test that is computed over the six rows.
use Prim.Native.Nat.{ℕ, suc, ◌-◌, ◌≤◌}
use native.Mathlib.Omega.{arith}
use mathlib.Core.Path.{◌≡◌, ap, ◌∙◌, subst}
use mathlib.Core.Bool.{Bool, true}
use mathlib.Core.List.{List, [], map}
use lib.ListN.{get_or, get_or-map}
use lib.Dec.{leb}
use borrow.Author.Tests.{leb-true}
use Rattle.rows.proofs.BoolLaws.{and_left, and_right}
use Rattle.rows.proofs.IndexLaws.{all_at}
use Rattle.rows.specs.Words.{all}
use Rattle.params.specs.Tables.{sized}

pub sized_is : (n : ℕ) → sized n ≡ true → (1 ≤ n) × (n ≤ 6)
unfolding sized
sized_is n h =
    (leb-true 1 n (and_left (leb 1 n) (leb n 6) h), leb-true n 6 (and_right (leb 1 n) (leb n 6) h))

-- a test that passes in each of the six rows passes at every size code
pub at_each : (p : ℕ → Bool) → all (λ i. p (suc i)) 6 ≡ true → (n : ℕ) → sized n ≡ true → p n ≡ true
at_each p passes n code =
    let row : suc (n - 1) ≡ n = omega (arith, sized_is n code) in
    subst (λ (k : ℕ). p k ≡ true) row (all_at (λ i. p (suc i)) 6 (n - 1) passes (omega (arith, sized_is n code)))

-- a block made of row n - 1 of the rules' table by way of the code's table, which is the rules' row by row
pub by_row : {A B : Type 0} (row_of : List ℕ → A) (block_of : A → B) (table : List (List ℕ)) (i n : ℕ) → i ≡ n - 1 → block_of (get_or (map row_of table) i (row_of [])) ≡ block_of (row_of (get_or table (n - 1) []))
by_row row_of block_of table i n e =
    ap block_of (get_or-map row_of table i []) ∙ ap (λ (k : ℕ). block_of (row_of (get_or table k []))) e
