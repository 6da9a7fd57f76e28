-- Any two outcomes that a contract allows are equal; and what a search that found something says.
use Prim.Native.Nat.{ℕ}
use mathlib.Core.Path.{◌≡◌, refl, sym, ap, ◌∙◌}
use mathlib.Core.List.{List}
use native.Mathlib.Omega.{arith}
use Rattle.std.specs.Prelude.{Bool, Option, Some, None, is_some}
use Rattle.rows.specs.Words.{any, first}
use Rattle.rows.proofs.IndexLaws.{found_if, missing_if}
use Rattle.rows.specs.Outcomes.{Gives, Leaves, Finds}

pub gives_one : {A : Type 0} {value r s : A} → Gives value r → Gives value s → r ≡ s
gives_one a b = a.answer ∙ sym b.answer

pub leaves_one : {A : Type 0} {value r s : A} {bytes t u : List ℕ} → Leaves value bytes r t → Leaves value bytes s u → (r ≡ s) × (t ≡ u)
leaves_one a b = (a.answer ∙ sym b.answer, a.left ∙ sym b.left)

pub finds_one : (n i : ℕ) (r s : Option ℕ) → Finds n i r → Finds n i s → r ≡ s
finds_one n i (Some k) (Some j) x y = ap Some (x.0 ∙ sym y.0)
finds_one n i (Some k) None x y = absurd (omega (arith, x.0, x.1, y))
finds_one n i None (Some j) x y = absurd (omega (arith, x, y.0, y.1))
finds_one n i None None x y = refl

-- a search found something just where something is there
pub finds_some : (p : ℕ → Bool) (n : ℕ) (r : Option ℕ) → Finds n (first p n) r → is_some r ≡ any p n
finds_some p n (Some k) h = sym (found_if p n (omega (arith, h.0, h.1)))
finds_some p n None h = sym (missing_if p n (omega (arith, h)))
