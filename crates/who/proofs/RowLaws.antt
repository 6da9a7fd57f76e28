-- The laws of a row of records: its roll, its rules as facts, who is logged in by the word, and the row that stands in bytes.
use Prim.Native.Nat.{ℕ, zero, suc, ◌+◌, ◌-◌, ◌*◌, ◌/◌, ◌%◌, ◌^◌, ◌≤◌, ◌<◌}
use native.Mathlib.Nat.{pow-suc, not-suc-le-zero, le_of_suc-le-suc}
use native.Mathlib.Omega.{arith}
use mathlib.Core.Path.{◌≡◌, refl, sym, ap, ◌∙◌}
use mathlib.Core.Bool.{Bool, true, false}
use mathlib.Core.List.{List, [], ◌∷◌}
use lib.Dec.{eqb, ltb, lit<}
use lib.ListN.{length, drop, get_or, length-drop, drop_of_length-le, get_or-eq_default}
use lib.Pow.{pow_mono}
use lib.Seq.{drop-cons}
use borrow.Author.Tests.{eqb-true, eq-eqb, ne_eqb, ltb-true, ltb-false}
use Rattle.rows.proofs.BoolLaws.{by_test, both, and_left, and_right, and_both, iff}
use Rattle.rows.proofs.IndexLaws.{all_at, all_from}
use Rattle.rows.proofs.BuildLaws.{length_build, get_D_build}
use Rattle.rows.proofs.NumberLaws.{halved}
use Rattle.std.specs.Prelude.{Some, None}
use Rattle.who.specs.declared.Station.{Station}
use Rattle.rows.specs.Words.{all}
use Rattle.rows.specs.Rows.{row}
use Rattle.rows.specs.Numbers.{bit_at}
use Rattle.who.specs.Records.{flag, station_of, flagged}
use Rattle.who.specs.Good.{good_station, numbers, good_from, good_row, is_row, stations_of}
use Rattle.who.specs.Row.{absent, station_in, is_in}
use Rattle.who.specs.Inner.{word_of, roll_of}
use Rattle.who.proofs.RecordLaws.{flag_small}

-- the word of a row fits as many bits as it has records
pub word_fits : (xs : List Station) → word_of xs < 2 ^ length xs
unfolding word_of
word_fits [] = lit< tt
word_fits (s ∷ xs) = omega (arith, word_fits xs, flag_small s.logged, pow-suc 2 (length xs))

-- each record of a good row keeps the rules of its number
from_at : (k : ℕ) (xs : List Station) (i j : ℕ) → k + i ≡ j → good_from k xs ≡ true → i < length xs → good_station j (get_or xs i absent) ≡ true
unfolding good_from
from_at k [] i j e h l = absurd (not-suc-le-zero l)
from_at k (s ∷ xs) zero j e h l = let same : j ≡ k = omega arith in rw same (and_left (good_station k s) (good_from (suc k) xs) h)
from_at k (s ∷ xs) (suc i) j e h l = from_at (suc k) xs i j (omega arith) (and_right (good_station k s) (good_from (suc k) xs) h) (le_of_suc-le-suc l)

from_each : (k : ℕ) (xs : List Station) → ((i j : ℕ) → k + i ≡ j → i < length xs → good_station j (get_or xs i absent) ≡ true) → good_from k xs ≡ true
unfolding good_from
from_each k [] h = refl
from_each k (s ∷ xs) h = and_both (h 0 k (omega arith) (omega arith)) (from_each (suc k) xs (λ i j e l. h (suc i) j (omega arith) (omega arith)))

pub record Good (xs : List Station) : Type 0 where
  pub sized : length xs ≡ numbers
  pub each : (n : ℕ) → n < numbers → good_station n (station_in xs n) ≡ true

module _ (xs : List Station) where
  pub good_is : good_row xs ≡ true → Good xs
  unfolding good_row station_in
  good_is h =
      let long : length xs ≡ numbers = eqb-true _ _ (and_left (eqb (length xs) numbers) (good_from 0 xs) h) in record {
        sized = long;
        each = λ n l. from_at 0 xs n n (omega arith) (and_right (eqb (length xs) numbers) (good_from 0 xs) h) (omega arith);
      }

  pub is_good : Good xs → good_row xs ≡ true
  unfolding good_row station_in
  is_good g = and_both (eq-eqb (length xs) numbers g.sized) (from_each 0 xs (λ i j e l.
      let same : i ≡ j = omega arith in
      rw same (g.each j (omega (arith, g.sized)))))

-- nobody is logged in past the end of a row
pub in_past : (xs : List Station) (n : ℕ) → length xs ≤ n → is_in xs n ≡ false
unfolding is_in station_in
in_past xs n h = ap (λ (s : Station). s.logged) (get_or-eq_default xs absent {n = n} h)

-- a word's bits are its records' flags
word_rest : (xs : List Station) (n : ℕ) → word_of xs / 2 ^ n ≡ word_of (drop n xs)
word_rest xs zero = omega arith
word_rest xs (suc n) = halved (word_of xs) n ∙ rw (word_rest xs n) (by_test (ltb n (length xs))
    (λ y. rw (drop-cons xs n absent (ltb-true n (length xs) y)) (unfold word_of in omega (arith, flag_small (get_or xs n absent).logged)))
    (λ f. let out = ltb-false n (length xs) f in
    rw (drop_of_length-le xs {i = n} out, drop_of_length-le xs {i = suc n} (omega arith)) (unfold word_of in refl)))

low_bit : (b : Bool) (k : ℕ) → eqb ((flag b + 2 * k) % 2) 1 ≡ b
unfolding flag
low_bit true k = eq-eqb ((1 + 2 * k) % 2) 1 (omega arith)
low_bit false k = ne_eqb ((0 + 2 * k) % 2) 1 (λ e. omega arith)

pub word_in : (xs : List Station) (n : ℕ) → bit_at (word_of xs) n ≡ is_in xs n
unfolding bit_at word_of is_in station_in
word_in xs n = by_test (ltb n (length xs))
    (λ y. rw (word_rest xs n, drop-cons xs n absent (ltb-true n (length xs) y)) (low_bit (get_or xs n absent).logged (word_of (drop (suc n) xs))))
    (λ f.
    let out = ltb-false n (length xs) f in
    let none : (get_or xs n absent).logged ≡ false = ap (λ (s : Station). s.logged) (get_or-eq_default xs absent {n = n} out) in
    rw (word_rest xs n, drop_of_length-le xs {i = n} out, none))

-- the word from number i on, of the one from the next on
word_more : (xs : List Station) (i : ℕ) → i < length xs → word_of (drop i xs) ≡ flag (station_in xs i).logged + 2 * word_of (drop (suc i) xs)
unfolding word_of station_in
word_more xs i l = rw (drop-cons xs i absent l)

-- the word of a row, called from the last record down: `word` is that of the records from number n on
module _ (xs : List Station) (long : length xs ≡ numbers) where
  pub word_starts : 0 ≡ word_of (drop numbers xs)
  unfolding word_of
  word_starts = sym (ap word_of (drop_of_length-le xs {i = numbers} (omega (arith, long))))

  module _ {n word : ℕ} (some : 0 < n) (few : n ≤ numbers) (called : word ≡ word_of (drop n xs)) where
    pub word_on : (bit : ℕ) → bit ≡ flag (station_in xs (n - 1)).logged → bit + 2 * word ≡ word_of (drop (n - 1) xs)
    word_on bit e =
        let next : suc (n - 1) ≡ n = omega arith in
        omega (arith, e, called, word_more xs (n - 1) (omega (arith, long)), ap (λ (k : ℕ). word_of (drop k xs)) next)

    pub word_room : word < 9223372036854775808
    word_room =
        let short : length (drop n xs) ≤ 63 = simp length-drop (omega arith) in
        omega (arith, called, word_fits (drop n xs), pow_mono short)

-- a row with a record that breaks the rules has no word
pub roll_none : (xs : List Station) (n : ℕ) → n < numbers → good_station n (station_in xs n) ≡ false → None ≡ roll_of xs
unfolding roll_of
roll_none xs n l bad = by_test (good_row xs) (λ y. both ((good_is xs y).each n l) bad) (λ m. rw m)

pub roll_some : (xs : List Station) → Good xs → Some (word_of xs) ≡ roll_of xs
unfolding roll_of
roll_some xs g = rw (is_good xs g)

-- the row that stands in bytes
module _ (w : List ℕ) where
  pub length_stations : length (stations_of w) ≡ numbers
  unfolding stations_of
  length_stations = length_build (λ n. station_of (row 18 w n)) numbers

  pub station_read : (n : ℕ) → n < numbers → station_in (stations_of w) n ≡ station_of (row 18 w n)
  unfolding stations_of station_in
  station_read n l = get_D_build (λ k. station_of (row 18 w k)) numbers n absent l

  -- it keeps the rules where each record does, as it stands in the bytes
  abbrev pub rules_at : ℕ → Bool
  rules_at n = good_station n (station_of (row 18 w n))

  pub row_each : good_row (stations_of w) ≡ all rules_at numbers
  row_each = iff _ _
      (λ h. all_from rules_at numbers (λ n l. rw (← station_read n l) ((good_is (stations_of w) h).each n l)))
      (λ h. is_good (stations_of w) (record { sized = length_stations; each = λ n l. rw (station_read n l) (all_at rules_at numbers n h l) }))

-- bytes in which a row stands
pub record Row (w : List ℕ) : Type 0 where
  pub sized : length w ≡ 18 * numbers
  pub flags : (n : ℕ) → n < numbers → flagged (row 18 w n) ≡ true

module _ (w : List ℕ) where
  abbrev flags_at : ℕ → Bool
  flags_at n = flagged (row 18 w n)

  pub row_is : is_row w ≡ true → Row w
  unfolding is_row
  row_is h =
      let a = eqb (length w) (18 * numbers) in
      let b = all flags_at numbers in
      record { sized = eqb-true _ _ (and_left a b h); flags = λ n l. all_at flags_at numbers n (and_right a b h) l }

  pub is_row_lem : Row w → is_row w ≡ true
  unfolding is_row
  is_row_lem r = and_both (eq-eqb (length w) (18 * numbers) r.sized) (all_from flags_at numbers r.flags)
