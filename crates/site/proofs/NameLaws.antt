-- The laws of names in a site file: how a row's name is compared, and that a name stands in one row.
use Rattle.std.specs.Prelude.{Option, is_some}
use Prim.Native.Nat.{ℕ, ◌+◌, ◌*◌, ◌/◌, ◌%◌, ◌≤◌, ◌<◌}
use native.Mathlib.Omega.{arith}
use mathlib.Core.Path.{◌≡◌, sym, ap, ap₂, ◌∙◌, subst}
use mathlib.Core.Bool.{Bool, true, false, not, ◌&&◌}
use mathlib.Core.List.{List}
use lib.Dec.{eqb, ltb}
use lib.ListN.{length}
use borrow.Author.Tests.{eqb-true, ltb-true, ltb-false, not-true}
use Rattle.rows.specs.Words.{any, first, same}
use Rattle.rows.specs.Outcomes.{Finds}
use Rattle.rows.proofs.OutcomeLaws.{finds_some}
use Rattle.rows.proofs.BoolLaws.{by_test, by_eq, both, and_left, and_right, and_both, iff}
use Rattle.rows.proofs.IndexLaws.{any_at, none_at, none_from, first_found}
use Rattle.rows.proofs.NumberLaws.{Bytes, bytes_part}
use Rattle.rows.proofs.MarkLaws.{Marked, unmarked_new}
use Rattle.rows.proofs.RowLaws.{length_part, row_end}
use Rattle.rows.specs.Marks.{marked, hash}
use Rattle.terms.specs.declared.names.Pattern.{Pattern}
use Rattle.terms.specs.Names.{same_name}
use Rattle.terms.specs.Shortcuts.{pattern_of, matches}
use Rattle.terms.proofs.NameLaws.{name_sym, name_trans}
use Rattle.terms.proofs.PatternLaws.{match_same, same_solid}
use Rattle.site.specs.Layout.{users, partitions, name_at, user_password, users_from, partitions_from, partition_row}
use Rattle.site.specs.Shortcuts.{name_hash, number_hash}
use Rattle.site.specs.Rules.{named_at, name_alone, user_named, partition_named, numbered, partition_numbered, number_alone, good_site}
use Rattle.site.specs.Found.{user_is, has_user}
use Rattle.site.proofs.RuleLaws.{site_user, site_partition}

-- a name has eight bytes, and they are bytes
pub name_long : (f : List ℕ) (from w i : ℕ) → from + w * i + 8 ≤ length f → length (name_at f from w i) ≡ 8
unfolding name_at
name_long f from w i h = length_part f (from + w * i) 8 h

name_bytes : (f : List ℕ) (from w i : ℕ) → Bytes f → Bytes (name_at f from w i)
unfolding name_at
name_bytes f from w i small = bytes_part f (from + w * i) 8 small

-- a row has a name just where its own has the pattern of that name
pub named_match : (f : List ℕ) (from w : ℕ) (name : List ℕ) (i : ℕ) {p : Pattern} {l : List ℕ} {r : Bool} → Bytes f → Bytes name → length name ≡ 8 → from + w * i + 8 ≤ length f → p ≡ pattern_of name → l ≡ name_at f from w i → r ≡ matches l p → named_at f from w name i ≡ r
unfolding named_at
named_match f from w name i small bytes long inside is here e =
    sym (e ∙ ap₂ matches here is ∙ match_same (name_at f from w i) name (name_bytes f from w i small) bytes (name_long f from w i inside ∙ sym long))

-- a search that found none, by the test for it
pub none_found : (p : ℕ → Bool) (n : ℕ) (r : Option ℕ) (b : Bool) → Finds n (first p n) r → is_some r ≡ not b → b ≡ not (any p n)
none_found p n r true h e = ap not (sym e ∙ finds_some p n r h)
none_found p n r false h e = ap not (sym e ∙ finds_some p n r h)

-- two names that are equal to one are equal
names_join : (a b c : List ℕ) → same_name a c ≡ true → same_name b c ≡ true → same_name a b ≡ true
names_join a b c p q = name_trans a c b p (name_sym b c q)

-- equal names have equal hashes, so that a name whose hash is in no earlier row is in none
pub unseen_alone : (n : ℕ) (f : List ℕ) (from w : ℕ) (map : List ℕ) (i : ℕ) → Bytes f → from + w * i + 8 ≤ length f → 8 ≤ w → Marked n (λ j. name_hash (name_at f from w j)) map i → marked map (name_hash (name_at f from w i)) ≡ false → name_alone f from w i ≡ true
unfolding name_alone named_at name_hash
unseen_alone n f from w map i small inside wide m new = ap not (unmarked_new n (λ j. name_hash (name_at f from w j)) map m (named_at f from w (name_at f from w i)) (name_hash (name_at f from w i)) (λ j l h.
    let before : from + w * j + 8 ≤ length f = omega (arith, row_end w l) in
    let eight : length (name_at f from w j) ≡ length (name_at f from w i) = name_long f from w j before ∙ sym (name_long f from w i inside) in
    ap (λ (s : ℕ). hash (s % 4294967296) (s / 4294967296) 0 0) (same_solid (name_at f from w j) (name_at f from w i) (name_bytes f from w j small) (name_bytes f from w i small) eight h)) new)

-- the same for volume and number
numbers_same : (f : List ℕ) (i j : ℕ) → partition_numbered f (partition_row f i).volume (partition_row f i).partition j ≡ true → number_hash f j ≡ number_hash f i
unfolding partition_numbered numbered number_hash
numbers_same f i j h =
    let r = partition_row f j in
    let s = partition_row f i in
    let v = eqb r.volume.0 s.volume.0 in
    let p = eqb r.partition.0 s.partition.0 in
    ap₂ (λ (x y : ℕ). (64 * x + y) % 256) (eqb-true _ _ (and_left v p h)) (eqb-true _ _ (and_right v p h))

pub unseen_number : (n : ℕ) (f map : List ℕ) (i : ℕ) → Marked n (number_hash f) map i → marked map (number_hash f i) ≡ false → number_alone f i ≡ true
unfolding number_alone
unseen_number n f map i m new = ap not (unmarked_new n (number_hash f) map m (partition_numbered f (partition_row f i).volume (partition_row f i).partition) (number_hash f i) (λ j l. numbers_same f i j) new)

-- of rows in which no name stands twice, one at most has a given name
module _ (f : List ℕ) (from w n : ℕ) (alone : (i : ℕ) → i < n → name_alone f from w i ≡ true) (name : List ℕ) where
  not_before : (i j : ℕ) → i < n → j < i → named_at f from w name i ≡ true → named_at f from w name j ≡ true → ⊥
  unfolding name_alone named_at
  not_before i j l b p q =
      both (names_join (name_at f from w j) (name_at f from w i) name q p)
      (none_at (named_at f from w (name_at f from w i)) i j (not-true _ (alone i l)) b)

  one_name : (i j : ℕ) → i < n → j < n → named_at f from w name i ≡ true → named_at f from w name j ≡ true → i ≡ j
  one_name i j l m p q = by_eq i j (λ e. e) (λ ne. by_test (ltb j i)
      (λ y. absurd (not_before i j l (ltb-true j i y) p q))
      (λ z. absurd (not_before j i m (omega (arith, ltb-false j i z)) q p)))

-- so in a good file a look-up finds one row at most, in either table
module _ (f : List ℕ) (good : good_site f ≡ true) (name : List ℕ) where
  pub one_user : (i j : ℕ) → i < users f → j < users f → user_named f name i ≡ true → user_named f name j ≡ true → i ≡ j
  one_user = one_name f users_from 16 (users f) (site_user f good) name

  pub one_partition : (i j : ℕ) → i < partitions f → j < partitions f → partition_named f name i ≡ true → partition_named f name j ≡ true → i ≡ j
  one_partition = one_name f (partitions_from f) 24 (partitions f) (λ i l. (site_partition f good i l).name) name

-- a user row has the name and the password exactly when the row of that name has the password
module _ (f name password : List ℕ) where
  pub no_user : any (user_named f name) (users f) ≡ false → has_user f name password ≡ false
  unfolding has_user user_is
  no_user h = none_from (user_is f name password) (users f) (λ i l. rw (none_at (user_named f name) (users f) i h l))

  pub the_user : good_site f ≡ true → any (user_named f name) (users f) ≡ true → has_user f name password ≡ same (user_password f (first (user_named f name) (users f))) password
  the_user good found = iff _ _ forth back
    where
      n : ℕ
      n = first (user_named f name) (users f)

      here : (n < users f) × (user_named f name n ≡ true)
      here = first_found (user_named f name) (users f) found

      forth : has_user f name password ≡ true → same (user_password f n) password ≡ true
      forth h =
          let at = first_found (user_is f name password) (users f) (unfold has_user in h) in
          let i = first (user_is f name password) (users f) in
          let is : (user_named f name i && same (user_password f i) password) ≡ true = unfold user_is in at.1 in
          let one : i ≡ n = one_user f good name i n at.0 here.0 (and_left (user_named f name i) (same (user_password f i) password) is) here.1 in
          subst (λ (k : ℕ). same (user_password f k) password ≡ true) one (and_right (user_named f name i) (same (user_password f i) password) is)

      back : same (user_password f n) password ≡ true → has_user f name password ≡ true
      back h = unfold has_user user_is in any_at (user_is f name password) (users f) n here.0 (and_both here.1 h)
