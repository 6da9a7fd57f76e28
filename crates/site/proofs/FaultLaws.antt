-- The first fault of a site file, case by case, as the check finds it.
use Rattle.std.specs.Prelude.{Result, Ok, Err, is_ok}
use Prim.Native.Nat.{ℕ, ◌<◌, ◌≤◌}
use native.Mathlib.Omega.{arith}
use mathlib.Core.Path.{◌≡◌, refl, sym, ap, ◌∙◌, subst}
use mathlib.Core.Bool.{Bool, true, false, cond, not, ◌&&◌}
use mathlib.Core.List.{List}
use lib.Dec.{ltb}
use borrow.Author.Tests.{ltb-true, lt-ltb, le-ltb, ltb-false}
use Rattle.rows.specs.Words.{first, fails}
use Rattle.rows.proofs.BoolLaws.{by_test, by_eq, both, and_left, and_right}
use Rattle.rows.proofs.IndexLaws.{at_holds, all_first, first_least, first_most, first_fails_both, stops_at}
use Rattle.site.specs.declared.Breach.{Breach}
use Rattle.site.specs.declared.Breach.TheVariants.{Range, Name, Number, Overlap}
use Rattle.site.specs.declared.Fault.{Fault}
use Rattle.site.specs.declared.Fault.TheVariants.{InHeader, InUser, InPartition}
use Rattle.site.specs.Layout.{users, partitions, partitions_from, partition_row}
use Rattle.site.specs.Rules.{good_header, name_alone, good_user, ranged, sound, number_alone, apart, good_partition, good_site}
use Rattle.site.proofs.RuleLaws.{Headed, header_is, sound_ranged, kept}
use Rattle.site.specs.Faults.{breach_number, breach_at, first_user, first_partition, first_fault, checked, breaks}
use Rattle.site.specs.Shortcuts.{left_by_range, left_by_name, left_by_number, left_by_overlap, checked_partitions}

-- a row with these answers to the four rules: is it good, its first breach, and has it this one
good : Bool → Bool → Bool → Bool → Bool
good s n v o = s && (n && (v && o))

judged : Bool → Bool → Bool → Breach
judged s n v = cond (not s) Range (cond (not n) Name (cond (not v) Number Overlap))

broken : Bool → Bool → Bool → Bool → Breach → Bool
broken s n v o Range = not s
broken s n v o Name = not n
broken s n v o Number = not v
broken s n v o Overlap = not o

judged_broken : (s n v o : Bool) → good s n v o ≡ false → broken s n v o (judged s n v) ≡ true
unfolding good judged broken
judged_broken false n v o h = refl
judged_broken true false v o h = refl
judged_broken true true false o h = refl
judged_broken true true true o h = ap not h

good_unbroken : (s n v o : Bool) → good s n v o ≡ true → (b : Breach) → broken s n v o b ≡ false
unfolding good broken
good_unbroken s n v o h Range = ap not (and_left s (n && (v && o)) h)
good_unbroken s n v o h Name = ap not (and_left n (v && o) (and_right s (n && (v && o)) h))
good_unbroken s n v o h Number = ap not (and_left v o (and_right n (v && o) (and_right s (n && (v && o)) h)))
good_unbroken s n v o h Overlap = ap not (and_right v o (and_right n (v && o) (and_right s (n && (v && o)) h)))

judged_least : (s n v o : Bool) (b : Breach) → broken s n v o b ≡ true → ltb (breach_number b) (breach_number (judged s n v)) ≡ false
unfolding judged broken breach_number
judged_least false n v o Range h = refl
judged_least false n v o Name h = refl
judged_least false n v o Number h = refl
judged_least false n v o Overlap h = refl
judged_least true false v o Range h = both h refl
judged_least true false v o Name h = refl
judged_least true false v o Number h = refl
judged_least true false v o Overlap h = refl
judged_least true true false o Range h = both h refl
judged_least true true false o Name h = both h refl
judged_least true true false o Number h = refl
judged_least true true false o Overlap h = refl
judged_least true true true o Range h = both h refl
judged_least true true true o Name h = both h refl
judged_least true true true o Number h = both h refl
judged_least true true true o Overlap h = refl

module _ (f : List ℕ) where
  names : ℕ → Bool
  names = name_alone f (partitions_from f) 24

  -- the same of partition row i
  row_broken : (i : ℕ) (b : Breach) → breaks f i b ≡ broken (sound f i) (names i) (number_alone f i) (apart f i) b
  unfolding breaks broken names
  row_broken i Range = refl
  row_broken i Name = refl
  row_broken i Number = refl
  row_broken i Overlap = refl

  row_judged : (i : ℕ) → breach_at f i ≡ judged (sound f i) (names i) (number_alone f i)
  unfolding breach_at breaks judged names
  row_judged i = refl

  row_good : (i : ℕ) → good_partition f i ≡ good (sound f i) (names i) (number_alone f i) (apart f i)
  unfolding good_partition good names
  row_good i = refl

  pub breach_breaks : (i : ℕ) → good_partition f i ≡ false → breaks f i (breach_at f i) ≡ true
  breach_breaks i h = row_broken i (breach_at f i) ∙ ap (broken (sound f i) (names i) (number_alone f i) (apart f i)) (row_judged i) ∙ judged_broken _ _ _ _ (sym (row_good i) ∙ h)

  pub good_breaks_none : (i : ℕ) → good_partition f i ≡ true → (b : Breach) → breaks f i b ≡ false
  good_breaks_none i h b = row_broken i b ∙ good_unbroken _ _ _ _ (sym (row_good i) ∙ h) b

  pub breach_least : (i : ℕ) (b : Breach) → breaks f i b ≡ true → ltb (breach_number b) (breach_number (breach_at f i)) ≡ false
  breach_least i b h = ap (λ (x : Breach). ltb (breach_number b) (breach_number x)) (row_judged i) ∙ judged_least _ _ _ (apart f i) b (sym (row_broken i b) ∙ h)

  -- a good file, by its first rows that are not good
  site_by_rows : good_site f ≡ (good_header f && (not (ltb (first_user f) (users f)) && not (ltb (first_partition f) (partitions f))))
  unfolding good_site first_user first_partition
  site_by_rows = rw (all_first (good_user f) (users f), all_first (good_partition f) (partitions f))

  -- what the check gives, case by case
  module _ (header : good_header f ≡ false) where
    pub header_faulty : Err InHeader ≡ checked f
    unfolding checked first_fault
    header_faulty = rw (site_by_rows, header)

  module _ (header : good_header f ≡ true) where
    pub user_faulty : (i : ℕ) → i ≡ first_user f → i < users f → Err (InUser i) ≡ checked f
    unfolding checked first_fault
    user_faulty i e l =
        let found : ltb (first_user f) (users f) ≡ true = lt-ltb (first_user f) (users f) (omega arith) in
        rw (site_by_rows, header, found) (ap (λ (k : ℕ). Err (InUser k)) e)

    pub partitions_checked : users f ≤ first_user f → checked_partitions f ≡ checked f
    unfolding checked first_fault checked_partitions
    partitions_checked l =
        let none : ltb (first_user f) (users f) ≡ false = le-ltb (first_user f) (users f) l in
        by_test (ltb (first_partition f) (partitions f))
        (λ y. rw (site_by_rows, header, none, y))
        (λ m. rw (site_by_rows, header, none, m))

  -- each rule leaves no more rows than the one before it
  pub fewer : (left_by_overlap f ≤ left_by_number f) × (left_by_number f ≤ left_by_name f) × (left_by_name f ≤ left_by_range f) × (left_by_range f ≤ partitions f)
  unfolding left_by_range left_by_name left_by_number left_by_overlap
  fewer = (first_most _ _, first_most _ _, first_most _ _, first_most _ _)

  -- and the last of them ends at the first row that is not good
  ends_first : left_by_overlap f ≡ first_partition f
  unfolding left_by_range left_by_name left_by_number left_by_overlap first_partition good_partition names
  ends_first =
      first_fails_both (number_alone f) (apart f) (first (fails names) (first (fails (sound f)) (partitions f)))
      ∙ first_fails_both names (λ i. number_alone f i && apart f i) (first (fails (sound f)) (partitions f))
      ∙ first_fails_both (sound f) (λ i. names i && (number_alone f i && apart f i)) (partitions f)

  -- a row that is left after a rule keeps it
  keeps : (i : ℕ) → (i < left_by_range f → not (sound f i) ≡ false) × (i < left_by_name f → not (names i) ≡ false) × (i < left_by_number f → not (number_alone f i) ≡ false)
  unfolding left_by_range left_by_name left_by_number names fails
  keeps i = (first_least (fails (sound f)) _ i, first_least (fails names) _ i, first_least (fails (number_alone f)) _ i)

  -- so that the breach of the first row that is not good is known
  faulty_is : (i : ℕ) (b : Breach) → i ≡ first_partition f → i < partitions f → breach_at f i ≡ b → Err (InPartition i b) ≡ checked_partitions f
  unfolding checked_partitions
  faulty_is i b e l is =
      let found : ltb (first_partition f) (partitions f) ≡ true = lt-ltb (first_partition f) (partitions f) (omega (arith, e)) in
      rw found (ap (λ (k : Breach). Err (InPartition i k)) (sym is) ∙ ap (λ (k : ℕ). Err (InPartition k (breach_at f k))) e)

  pub none_faulty : partitions f ≤ left_by_overlap f → Ok tt ≡ checked_partitions f
  unfolding checked_partitions
  none_faulty l = rw (le-ltb (first_partition f) (partitions f) (omega (arith, ends_first)))

  pub overlap_faulty : left_by_overlap f < left_by_number f → Err (InPartition (left_by_overlap f) Overlap) ≡ checked_partitions f
  unfolding breach_at breaks names
  overlap_faulty l = let o = left_by_overlap f in
      faulty_is o Overlap ends_first (omega (arith, fewer)) (rw ((keeps o).0 (omega (arith, fewer)), (keeps o).1 (omega (arith, fewer)), (keeps o).2 l))

  module _ (apart₁ : left_by_number f ≤ left_by_overlap f) where
    pub number_faulty : left_by_number f < left_by_name f → Err (InPartition (left_by_number f) Number) ≡ checked_partitions f
    unfolding breach_at breaks names left_by_number
    number_faulty l = let v = left_by_number f in
        faulty_is v Number (omega (arith, ends_first, fewer)) (omega (arith, fewer)) (rw ((keeps v).0 (omega (arith, fewer)), (keeps v).1 l, stops_at (number_alone f) (left_by_name f) l))

    module _ (numbered : left_by_name f ≤ left_by_number f) where
      pub name_faulty : left_by_name f < left_by_range f → Err (InPartition (left_by_name f) Name) ≡ checked_partitions f
      unfolding breach_at breaks names left_by_name
      name_faulty l = let n = left_by_name f in
          faulty_is n Name (omega (arith, ends_first, fewer)) (omega (arith, fewer)) (rw ((keeps n).0 l, stops_at names (left_by_range f) l))

      pub range_faulty : left_by_range f ≤ left_by_name f → left_by_range f < partitions f → Err (InPartition (left_by_range f) Range) ≡ checked_partitions f
      unfolding breach_at breaks left_by_range
      range_faulty named l = faulty_is (left_by_range f) Range (omega (arith, ends_first, fewer)) l (rw (stops_at (sound f) (partitions f) l))

  -- the parts of a file that is not good: what the tests say where the first fault stands in each
  pub data FirstCase : Fault → Type 0 where
    header_case : good_header f ≡ false → FirstCase InHeader
    user_case : good_header f ≡ true → first_user f < users f → FirstCase (InUser (first_user f))
    partition_case : good_header f ≡ true → users f ≤ first_user f → first_partition f < partitions f → FirstCase (InPartition (first_partition f) (breach_at f (first_partition f)))

  pub first_case : good_site f ≡ false → FirstCase (first_fault f)
  unfolding first_fault
  first_case bad = by_test (good_header f)
      (λ h. by_test (ltb (first_user f) (users f))
      (λ u. rw (h, u) (user_case h (ltb-true _ _ u)))
      (λ n. by_test (ltb (first_partition f) (partitions f))
      (λ p. rw (h, n) (partition_case h (ltb-false _ _ n) (ltb-true _ _ p)))
      (λ m. both (site_by_rows ∙ rw (h, n, m)) bad)))
      (λ h. rw h (header_case h))

  -- what the check gave
  pub checked_is : {x : Fault} → checked f ≡ Err x → (good_site f ≡ false) × (first_fault f ≡ x)
  unfolding checked
  checked_is {x} e = by_test (good_site f)
      (λ y. absurd (not_faulty (rw y at e)))
      (λ n. (n, named (rw n at e)))
    where
      not_faulty : ◌≡◌ {A = Result (Unit {0}) Fault} (Ok tt) (Err x) → ⊥
      not_faulty q = let z : ◌≡◌ {A = ℕ} 0 1 = cc in omega arith

      named : ◌≡◌ {A = Result (Unit {0}) Fault} (Err (first_fault f)) (Err x) → first_fault f ≡ x
      named q = cc

  pub checked_case : {x : Fault} → checked f ≡ Err x → FirstCase x
  checked_case e = let is = checked_is e in subst FirstCase is.1 (first_case is.0)

  pub checked_good : {u : Unit {0}} → checked f ≡ Ok u → good_site f ≡ true
  unfolding checked
  checked_good {u} e = by_test (good_site f) (λ y. y) (λ n. absurd (not_good (rw n at e)))
    where
      not_good : ◌≡◌ {A = Result (Unit {0}) Fault} (Err (first_fault f)) (Ok u) → ⊥
      not_good q = let z : ◌≡◌ {A = ℕ} 0 1 = cc in omega arith

  -- the test by which code tells whether the file is good
  pub checked_ok : is_ok (checked f) ≡ good_site f
  unfolding checked
  checked_ok = by_test (good_site f) (λ y. rw y) (λ n. rw n)

  -- what is known where the first fault is x: the rows up to the one named can be read, and for an overlap they are in range
  abbrev pub Known : Fault → Type 0
  Known InHeader = Unit
  Known (InUser i) = Headed f × (i < users f)
  Known (InPartition i b) = Headed f × (i < partitions f) × (b ≡ Overlap → (j : ℕ) → j ≤ i → ranged (partition_row f j) ≡ true)

  overlap_last : (s n v : Bool) → judged s n v ≡ Overlap → s ≡ true
  unfolding judged
  overlap_last true n v e = refl
  overlap_last false n v e = let z : ◌≡◌ {A = ℕ} 0 1 = cc in absurd (omega arith)

  pub good_before : (j : ℕ) → j < first_partition f → good_partition f j ≡ true
  unfolding first_partition
  good_before j l = at_holds (good_partition f) j (first_least (fails (good_partition f)) (partitions f) j l)

  pub known : {x : Fault} → FirstCase x → Known x
  known (header_case h) = tt
  known (user_case h l) = (header_is f h, l)
  known (partition_case h u l) = (
    header_is f h,
    l,
    λ e j m. by_eq j (first_partition f)
        (λ (q : j ≡ first_partition f). rw q (sound_ranged f (first_partition f) (overlap_last _ _ _ (sym (row_judged (first_partition f)) ∙ e))))
        (λ ne. (kept f j (good_before j (omega arith))).range),
  )
