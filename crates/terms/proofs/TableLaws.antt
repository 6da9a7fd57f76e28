-- The laws of lock strings in the rows of a table.
use Prim.Native.Nat.{ℕ, ◌+◌, ◌*◌, ◌≤◌, ◌<◌}
use native.Mathlib.Bridge.{le_prop}
use native.Mathlib.Nat.{lt_trans, add-zero}
use native.Mathlib.Omega.{arith}
use mathlib.Core.Path.{◌≡◌, refl, sym, ap, ◌∙◌}
use mathlib.Core.Bool.{Bool, true, false, not, ◌&&◌}
use mathlib.Core.List.{List}
use lib.Dec.{eqb, ltb, lit≤}
use lib.ListN.{get_or}
use borrow.Author.Tests.{ltb-true, ltb-false, not-true}
use Rattle.rows.proofs.BoolLaws.{by_test, by_eq, both, refuted, and_left, and_right}
use Rattle.rows.proofs.IndexLaws.{all_at, all_from, none_at, none_from}
use Rattle.rows.proofs.MarkLaws.{Marked, unmarked_new}
use Rattle.rows.proofs.RowLaws.{head_part}
use Rattle.rows.specs.Marks.{marked}
use Rattle.rows.specs.Rows.{row, part}
use Rattle.rows.specs.Words.{all, any}
use Rattle.terms.proofs.StringLaws.{string_inside, same_normal, same_string_refl, same_string_right, same_string_sym, same_string_trans}
use Rattle.terms.specs.declared.table.Shape.{Shape}
use Rattle.terms.specs.declared.LockString.{LockString}
use Rattle.terms.specs.Strings.{string_at, key, same_string, normal}
use Rattle.terms.specs.Tables.{is_free, string_in, holds, row_in, row_free, row_string, row_holds, row_alone}
use Rattle.terms.specs.Shortcuts.{string_hash, row_has_key}

-- two shapes with the same fields are the same
pub one_shape : (width string free : ℕ) (p q : string + 14 ≤ width) → ◌≡◌ {A = Shape} (record { width = width; string = string; free = free; room = p }) (record { width = width; string = string; free = free; room = q })
one_shape width string free p q = λ i. record { width = width; string = string; free = free; room = le_prop p q i }

-- the first byte and the string of row i, where they stand in the table
module _ (shape : Shape) (t : List ℕ) (i : ℕ) where
  pub free_at_lem : eqb (get_or t (shape.width * i) 0) shape.free ≡ row_free shape t i
  unfolding row_in row_free is_free
  free_at_lem = ap (λ (b : ℕ). eqb b shape.free) (sym (head_part t (shape.width * i) shape.width (omega (arith, shape.room))))

  pub string_in_row : string_at (part t (shape.width * i + shape.string) 14) 0 ≡ row_string shape t i
  unfolding row_in row_string string_in
  string_in_row =
      string_inside t (shape.width * i + shape.string) 14 0 (lit≤ tt)
      ∙ ap (string_at t) (add-zero (shape.width * i + shape.string))
      ∙ sym (string_inside t (shape.width * i) shape.width shape.string shape.room)

-- a row that holds the length and the bytes of s holds s
pub key_held : (shape : Shape) (t : List ℕ) (s : LockString) → row_has_key shape t s.len (key s) ≡ row_holds shape t s
unfolding row_has_key row_in row_free row_string row_holds holds same_string
key_held shape t s = refl

-- a row that holds a string
pub record Holds (shape : Shape) (x : LockString) (r : List ℕ) : Type 0 where
  pub used : is_free shape r ≡ false
  pub string : same_string (string_in shape r) x ≡ true

module _ (shape : Shape) where
  pub holds_is : (x : LockString) (r : List ℕ) → holds shape x r ≡ true → Holds shape x r
  unfolding holds
  holds_is x r h = record {
    used = not-true _ (and_left (not (is_free shape r)) (same_string (string_in shape r) x) h);
    string = and_right (not (is_free shape r)) (same_string (string_in shape r) x) h;
  }

  pub is_holds : (x : LockString) (r : List ℕ) → Holds shape x r → holds shape x r ≡ true
  unfolding holds
  is_holds x r h = rw (h.used, h.string)

  -- a row holds every string that is the same as one that it holds
  pub holds_same : (a b : LockString) (r : List ℕ) → same_string a b ≡ true → holds shape a r ≡ holds shape b r
  unfolding holds
  holds_same a b r h = ap (λ (c : Bool). not (is_free shape r) && c) (same_string_right a b (string_in shape r) h)

  -- a free row holds nothing
  pub free_holds : (x : LockString) (r : List ℕ) → is_free shape r ≡ true → holds shape x r ≡ false
  unfolding holds
  free_holds x r f = rw f

-- each row holds a string that is in no earlier one just where of the rows that hold a string there is one at most
module _ (shape : Shape) (t : List ℕ) (n : ℕ) where
  abbrev at : ℕ → List ℕ
  at i = row shape.width t i

  abbrev pub OneRow : Type 0
  OneRow = (x : LockString) (i j : ℕ) → i < n → j < n → holds shape x (row shape.width t i) ≡ true → holds shape x (row shape.width t j) ≡ true → i ≡ j

  not_before : all (row_alone shape t) n ≡ true → (x : LockString) (i j : ℕ) → i < n → j < i → holds shape x (at i) ≡ true → holds shape x (at j) ≡ true → ⊥
  unfolding row_alone row_in row_free row_string row_holds
  not_before a x i j l b p q =
      let here = holds_is shape x (at i) p in
      let there = holds_is shape x (at j) q in
      let s = string_in shape (at i) in
      let none : any (row_holds shape t s) i ≡ false = not-true _ (rw here.used at (all_at (row_alone shape t) n i a l)) in
      both (is_holds shape s (at j) (record { used = there.used; string = same_string_trans _ _ _ there.string (same_string_sym _ _ here.string) }))
      (none_at (row_holds shape t s) i j none b)

  pub alone_one : all (row_alone shape t) n ≡ true → OneRow
  alone_one a x i j l m p q = by_eq i j (λ e. e) (λ ne. by_test (ltb j i)
      (λ y. absurd (not_before a x i j l (ltb-true j i y) p q))
      (λ z. absurd (not_before a x j i m (omega (arith, ltb-false j i z)) q p)))

  pub one_alone : OneRow → all (row_alone shape t) n ≡ true
  unfolding row_alone row_in row_free row_string row_holds
  one_alone one = all_from (row_alone shape t) n (λ i l. by_test (is_free shape (at i))
      (λ f. rw f)
      (λ u.
      let x = string_in shape (at i) in
      let own : holds shape x (at i) ≡ true = is_holds shape x (at i) (record { used = u; string = same_string_refl x }) in
      rw (u, none_from (row_holds shape t x) i (λ j b. sym (refuted _ (λ h. let e = one x i j l (omega arith) own h in omega arith))))))

-- rows below n whose strings stand in their normal form
module _ (shape : Shape) (t : List ℕ) (n : ℕ) (plain : (i : ℕ) → i < n → row_free shape t i ≡ false → normal (row_string shape t i) ≡ row_string shape t i) where
  -- rows with the same string have the same hash
  hash_same : (i j : ℕ) → i < n → j < n → row_free shape t i ≡ false → row_holds shape t (row_string shape t i) j ≡ true → string_hash (row_string shape t j) ≡ string_hash (row_string shape t i)
  unfolding row_in row_free row_string row_holds
  hash_same i j li lj used h =
      let there = holds_is shape (row_string shape t i) (row shape.width t j) h in
      ap string_hash (sym (plain j lj there.used) ∙ same_normal _ _ there.string ∙ plain i li used)

  -- so that a row whose hash is in no earlier row holds a string that is in none
  pub unseen_alone : (w : ℕ) (map : List ℕ) (i : ℕ) → i < n → Marked w (λ j. string_hash (row_string shape t j)) map i → marked map (string_hash (row_string shape t i)) ≡ false → row_alone shape t i ≡ true
  unfolding row_alone
  unseen_alone w map i l m new = by_test (row_free shape t i)
      (λ f. rw f)
      (λ u. rw (u, unmarked_new w (λ j. string_hash (row_string shape t j)) map m (row_holds shape t (row_string shape t i)) (string_hash (row_string shape t i)) (λ j b. hash_same i j l (lt_trans b l) u) new))
