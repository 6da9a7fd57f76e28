-- There is a fault just where a site file is not good; the one that is named is there, and none stands before it; and the earlier row
-- of a clashing pair is the first that clashes.
use Prim.Native.Nat.{ℕ, ◌<◌}
use native.Mathlib.Omega.{arith}
use mathlib.Core.Path.{◌≡◌, refl, sym, ap, ◌∙◌}
use mathlib.Core.Bool.{Bool, true, false, cond, not, ◌&&◌, ◌||◌}
use mathlib.Core.List.{List}
use lib.Dec.{eqb, ltb}
use borrow.Author.Tests.{eqb-true, eq-eqb, lt-ltb, ltb-true, ltb-false, not-true, not-false}
use Rattle.rows.specs.Words.{any, fails}
use Rattle.rows.proofs.BoolLaws.{by_test, by_eq, both, and_right, and_left, and_both, or_from}
use Rattle.rows.proofs.IndexLaws.{first_found, first_least, stops_at}
use Rattle.site.specs.declared.Breach.{Breach}
use Rattle.site.specs.declared.Breach.TheVariants.{Range, Name, Number, Overlap}
use Rattle.site.specs.declared.Fault.{Fault}
use Rattle.site.specs.declared.Fault.TheVariants.{InHeader, InUser, InPartition}
use Rattle.std.specs.Prelude.{Err}
use Rattle.site.specs.Layout.{users, partitions}
use Rattle.site.specs.Rules.{name_alone, good_user, number_alone, apart, good_partition, good_site}
use Rattle.site.specs.Faults.{fault_part, fault_row, breach_number, fault_breach, first_user, first_partition, first_fault, checked, breaks, there, before, First, clashes, earlier_row}
use Rattle.site.proofs.RuleLaws.{header_is, site_headed, site_user, site_row}
use Rattle.site.proofs.FaultLaws.{breach_breaks, good_breaks_none, breach_least, good_before, FirstCase, header_case, user_case, partition_case, first_case, checked_case}

-- two tests of an order, one after the other
neither : (a b c : Bool) → a ≡ false → (b ≡ true → c ≡ false) → (a || (b && c)) ≡ false
neither true b c x y = x
neither false true c x y = y refl
neither false false c x y = refl

not_below : (i j : ℕ) → (i < j → ⊥) → ltb i j ≡ false
not_below i j h = by_test (ltb i j) (λ y. absurd (h (ltb-true i j y))) (λ n. n)

-- nothing stands before the header
header_least : (y : Fault) → before y InHeader ≡ false
unfolding before fault_part fault_row fault_breach breach_number
header_least InHeader = refl
header_least (InUser i) = refl
header_least (InPartition i b) = refl

module _ (f : List ℕ) where
  -- a good file has no fault
  pub no_fault : good_site f ≡ true → (x : Fault) → there f x ≡ false
  unfolding there
  no_fault good InHeader = ap not (site_headed f good)
  no_fault good (InUser i) = by_test (ltb i (users f))
      (λ y. rw y (ap not (site_user f good i (ltb-true i (users f) y))))
      (λ n. rw n)
  no_fault good (InPartition i b) = by_test (ltb i (partitions f))
      (λ y. rw y (good_breaks_none f i (site_row f good i (ltb-true i (partitions f) y)) b))
      (λ n. rw n)

  -- a fault that is there, row by row
  user_there : (j : ℕ) → there f (InUser j) ≡ true → (j < users f) × (not (good_user f j) ≡ true)
  unfolding there
  user_there j h = (ltb-true _ _ (and_left (ltb j (users f)) (not (good_user f j)) h), and_right (ltb j (users f)) (not (good_user f j)) h)

  partition_there : (j : ℕ) (b : Breach) → there f (InPartition j b) ≡ true → breaks f j b ≡ true
  unfolding there
  partition_there j b h = and_right (ltb j (partitions f)) (breaks f j b) h

  -- the fault named is there
  named_there : {x : Fault} → FirstCase f x → there f x ≡ true
  unfolding there first_user first_partition
  named_there (header_case h) = ap not h
  named_there (user_case h l) = and_both (lt-ltb _ _ l) (ap not (stops_at (good_user f) (users f) l))
  named_there (partition_case h u l) = and_both (lt-ltb _ _ l) (breach_breaks f _ (stops_at (good_partition f) (partitions f) l))

  -- none stands in a row before it
  no_user_before : (j : ℕ) → there f (InUser j) ≡ true → j < first_user f → ⊥
  unfolding first_user fails
  no_user_before j h l = both (user_there j h).1 (first_least (fails (good_user f)) (users f) j l)

  no_partition_before : (j : ℕ) (b : Breach) → there f (InPartition j b) ≡ true → j < first_partition f → ⊥
  no_partition_before j b h l = both (partition_there j b h) (good_breaks_none f j (good_before f j l) b)

  none_before : {x : Fault} → FirstCase f x → (y : Fault) → there f y ≡ true → before y x ≡ false
  unfolding before fault_part fault_row fault_breach breach_number there
  none_before (header_case h) y t = header_least y
  none_before (user_case h l) InHeader t = both t (ap not h)
  none_before (user_case h l) (InUser j) t = neither (ltb j (first_user f)) (eqb j (first_user f)) _ (not_below j (first_user f) (no_user_before j t)) (λ e. refl)
  none_before (user_case h l) (InPartition j b) t = refl
  none_before (partition_case h u l) InHeader t = both t (ap not h)
  none_before (partition_case h u l) (InUser j) t = absurd (no_user_before j t (omega (arith, (user_there j t).0)))
  none_before (partition_case h u l) (InPartition j b) t =
      neither (ltb j (first_partition f)) (eqb j (first_partition f)) _ (not_below j (first_partition f) (no_partition_before j b t))
      (λ e. let here : j ≡ first_partition f = eqb-true j (first_partition f) e in
      breach_least f (first_partition f) b (ap (λ (k : ℕ). breaks f k b) (sym here) ∙ partition_there j b t))

  -- so it is the first
  case_first : {x : Fault} → FirstCase f x → First f x
  case_first at = record { named = named_there at; none_before = none_before at }

  pub first_fault_lem : good_site f ≡ false → First f (first_fault f)
  first_fault_lem bad = case_first (first_case f bad)

  -- and what the check gives is: the first fault of a file that has one, and good for a file that has none
  pub check_first : {x : Fault} → checked f ≡ Err x → First f x
  check_first e = case_first (checked_case f e)

  pub good_if_none : ((x : Fault) → there f x ≡ false) → good_site f ≡ true
  good_if_none none = by_test (good_site f) (λ y. y) (λ n. both (first_fault_lem n).named (none (first_fault f)))

-- two faults of which neither stands before the other are one
tie : (i j : ℕ) (c d : Bool) → (ltb i j || (eqb i j && c)) ≡ false → (ltb j i || (eqb j i && d)) ≡ false → (i ≡ j) × (c ≡ false) × (d ≡ false)
tie i j c d x y = by_eq i j
    (λ e. (e, last i j c e x, last j i d (sym e) y))
    (λ ne. by_test (ltb i j)
    (λ a. both (or_left (ltb i j) (eqb i j && c) a) x)
    (λ a. both (or_left (ltb j i) (eqb j i && d) (lt-ltb j i (omega (arith, ltb-false i j a)))) y))
  where
    or_left : (a b : Bool) → a ≡ true → (a || b) ≡ true
    or_left a b h = rw h

    last : (i j : ℕ) (c : Bool) → i ≡ j → (ltb i j || (eqb i j && c)) ≡ false → c ≡ false
    last i j c e x = by_test c (λ t. both (or_from (ltb i j) (eqb i j && c) (λ z. and_both (eq-eqb i j e) t)) x) (λ n. n)

-- a fault is known by its three numbers
breach_of : ℕ → Breach
breach_of k = cond (eqb k 1) Range (cond (eqb k 2) Name (cond (eqb k 3) Number Overlap))

pub fault_of : ℕ → ℕ → ℕ → Fault
fault_of part row breach = cond (eqb part 0) InHeader (cond (eqb part 1) (InUser row) (InPartition row (breach_of breach)))

pub fault_back : (x : Fault) → fault_of (fault_part x) (fault_row x) (fault_breach x) ≡ x
unfolding fault_of breach_of fault_part fault_row fault_breach breach_number
fault_back InHeader = refl
fault_back (InUser i) = refl
fault_back (InPartition i Range) = refl
fault_back (InPartition i Name) = refl
fault_back (InPartition i Number) = refl
fault_back (InPartition i Overlap) = refl

same_numbers : (x y : Fault) → fault_part x ≡ fault_part y → fault_row x ≡ fault_row y → fault_breach x ≡ fault_breach y → x ≡ y
same_numbers x y p r b = sym (fault_back x) ∙ rw (p, r, b) (fault_back y)

neither_before : (x y : Fault) → before x y ≡ false → before y x ≡ false → x ≡ y
unfolding before
neither_before x y a b =
    let parts = tie (fault_part x) (fault_part y) _ _ a b in
    let rows = tie (fault_row x) (fault_row y) _ _ parts.1 parts.2 in
    same_numbers x y parts.0 rows.0 (omega (arith, ltb-false (fault_breach x) (fault_breach y) rows.1, ltb-false (fault_breach y) (fault_breach x) rows.2))

-- a file has one first fault
pub first_one : (f : List ℕ) {x y : Fault} → First f x → First f y → x ≡ y
first_one f {x} {y} a b = neither_before x y (b.none_before x a.named) (a.none_before y b.named)

-- the fault named fits three bytes
breach_small : (b : Breach) → breach_number b < 256
unfolding breach_number
breach_small Range = omega arith
breach_small Name = omega arith
breach_small Number = omega arith
breach_small Overlap = omega arith

module _ (f : List ℕ) where
  numbers_small : {x : Fault} → FirstCase f x → (fault_part x < 256) × (fault_row x < 256) × (fault_breach x < 256)
  unfolding fault_part fault_row fault_breach
  numbers_small (header_case h) = (omega arith, omega arith, breach_small Range)
  numbers_small (user_case h l) = (omega arith, omega (arith, (header_is f h).few_users), breach_small Name)
  numbers_small (partition_case h u l) = (omega arith, omega (arith, (header_is f h).few_partitions), breach_small _)

  pub fault_small : good_site f ≡ false → (fault_part (first_fault f) < 256) × (fault_row (first_fault f) < 256) × (fault_breach (first_fault f) < 256)
  fault_small bad = numbers_small (first_case f bad)

  -- where the fault is no range, an earlier row clashes with the one named
  some_clash : (x : Fault) → there f x ≡ true → (fault_breach x ≡ 1 → ⊥) → any (clashes f x) (fault_row x) ≡ true
  unfolding there breaks fault_breach breach_number fault_row clashes name_alone number_alone apart
  some_clash InHeader t ne = absurd (ne refl)
  some_clash (InUser i) t ne = not-false _ (not-true _ (and_right (ltb i (users f)) (not (good_user f i)) t))
  some_clash (InPartition i Range) t ne = absurd (ne refl)
  some_clash (InPartition i Name) t ne = not-false _ (not-true _ (and_right (ltb i (partitions f)) (breaks f i Name) t))
  some_clash (InPartition i Number) t ne = not-false _ (not-true _ (and_right (ltb i (partitions f)) (breaks f i Number) t))
  some_clash (InPartition i Overlap) t ne = not-false _ (not-true _ (and_right (ltb i (partitions f)) (breaks f i Overlap) t))

  -- the earlier row of the pair that the check names the later one of: it clashes, and none before it does
  pub earlier_first : {x : Fault} → checked f ≡ Err x → (fault_breach x ≡ 1 → ⊥)
      → (earlier_row f x < fault_row x) × (clashes f x (earlier_row f x) ≡ true) × ((j : ℕ) → j < earlier_row f x → clashes f x j ≡ false)
  unfolding earlier_row
  earlier_first {x} e ne =
      let at = first_found (clashes f x) (fault_row x) (some_clash x (named_there f (checked_case f e)) ne) in
      (at.0, at.1, first_least (clashes f x) (fault_row x))
