-- The laws of specs/Tables.antt: a user row by the pattern of a name, and a configuration.
use Rattle.std.specs.Prelude.{Option, Some, None, unwrap_or}
use Prim.Native.Nat.{ℕ, ◌+◌, ◌*◌, ◌/◌, ◌≤◌, ◌<◌}
use native.Mathlib.Omega.{arith}
use mathlib.Core.Path.{◌≡◌, sym, ap, ◌∙◌}
use mathlib.Core.Bool.{Bool, ◌&&◌}
use mathlib.Core.List.{List, [], ◌∷◌}
use lib.Dec.{ltb}
use lib.ListN.{length, length-replicate}
use Rattle.rows.specs.Words.{same}
use Rattle.rows.specs.Rows.{part, begins}
use Rattle.rows.proofs.BoolLaws.{by_test}
use Rattle.rows.proofs.IndexLaws.{first_most}
use Rattle.rows.proofs.NumberLaws.{Bytes, bytes_part}
use Rattle.rows.specs.Outcomes.{Finds}
use Rattle.rows.proofs.RowLaws.{length_part, row_end}
use borrow.Author.Tests.{ltb-true}
use Rattle.terms.specs.declared.names.Pattern.{Pattern}
use Rattle.terms.specs.Shortcuts.{pattern_of, matches}
use Rattle.terms.proofs.PatternLaws.{match_same}
use Rattle.boot.specs.Tables.{product_rows, user_rows, is_user, no_configuration, configuration}

-- the product table ends at a row of type 0 or where its rows end
pub products_most : (t : List ℕ) → 25 * product_rows t ≤ length t
unfolding product_rows
products_most t = omega (arith, first_most (begins 25 t (0 ∷ [])) (length t / 25))

pub product_row : (t : List ℕ) (p : ℕ) → p < product_rows t → 25 * p + 25 ≤ length t
product_row t p l = omega (arith, row_end 25 l, products_most t)

-- a search, or the end of what it went over
pub finds_or : (n i : ℕ) (r : Option ℕ) → Finds n i r → unwrap_or r n ≡ i
finds_or n i (Some k) h = h.0
finds_or n i None h = h

-- a row is the user's just where its name has the pattern of his, and its password is the one
pub user_match : (t name password : List ℕ) (i : ℕ) {p : Pattern} {r : Bool} → Bytes t → Bytes name → length name ≡ 8 → i < user_rows t → p ≡ pattern_of name → r ≡ (matches (part t (16 * i) 8) p && same (part t (16 * i + 8) 6) password) → is_user t name password i ≡ r
unfolding is_user user_rows
user_match t name password i small bytes long l is e =
    let own = part t (16 * i) 8 in
    let eight : length own ≡ 8 = length_part t (16 * i) 8 (omega arith) in
    sym (e ∙ ap (λ (q : Pattern). matches own q && same (part t (16 * i + 8) 6) password) is ∙ ap (λ (b : Bool). b && same (part t (16 * i + 8) 6) password) (match_same own name (bytes_part t (16 * i) 8 small) bytes (eight ∙ sym long)))

-- a configuration has 64 bytes
pub configuration_long : (t : List ℕ) (i : ℕ) → length (configuration t i) ≡ 64
unfolding configuration no_configuration
configuration_long t i = by_test (ltb i (length t / 64))
    (λ y. rw y (length_part t (64 * i) 64 (omega (arith, ltb-true i (length t / 64) y))))
    (λ n. rw n (length-replicate {A = ℕ} 64 0))
