-- The laws of one station record: its rules as facts, and its two forms, the struct and the 18 bytes, each from the other.
use Prim.Native.Nat.{ℕ, ◌+◌, ◌≤◌, ◌<◌}
use native.Mathlib.Omega.{arith}
use mathlib.Core.Path.{◌≡◌, refl, sym, ◌∙◌}
use mathlib.Core.Bool.{Bool, true, false, ◌&&◌, ◌||◌}
use mathlib.Core.List.{List, [], ◌∷◌, ◌++◌, append_assoc, append-nil}
use lib.Dec.{eqb, leb, lit≤}
use lib.ListN.{length, drop, get_or, length-append, drop_of_length-le}
use lib.Seq.{get_or-append-add, drop-cons}
use borrow.Author.Tests.{leb-true, le-leb, lt-leb, leb-false, eqb-true, eqb-false, eq-eqb, ne_eqb}
use Rattle.rows.proofs.BoolLaws.{by_test, and_left, and_right, and_both, and_fails, or_rest, or_from}
use Rattle.rows.proofs.RowLaws.{part_rest, part_mid, over_first, over_next}
use Rattle.rows.proofs.NumberLaws.{length_low_bytes, low_back, part_back, two_bytes}
use Rattle.rows.specs.Words.{all, zeros, zero_at}
use Rattle.rows.specs.Rows.{part, put}
use Rattle.rows.specs.Numbers.{low_first, low_bytes}
use Rattle.who.specs.declared.Station.{Station}
use Rattle.who.specs.Records.{flag, bytes_of, station_of, flagged, nobody, local_user}
use Rattle.who.specs.Good.{good_counts, plain, good_station}
use Rattle.who.specs.Row.{vacant}

-- misses and slow turns in range
pub record Counts (misses slow : ℕ) : Type 0 where
  pub few : misses ≤ 255
  pub short : slow ≤ 11
  pub early : misses < 160 → slow ≡ 0

module _ (misses slow : ℕ) where
  pub counts_is : good_counts misses slow ≡ true → Counts misses slow
  unfolding good_counts
  counts_is h =
      let m = leb misses 255 in
      let s = leb slow 11 in
      let e = leb 160 misses || eqb slow 0 in
      let h₁ = and_right m (s && e) h in record {
        few = leb-true _ _ (and_left m (s && e) h);
        short = leb-true _ _ (and_left s e h₁);
        early = λ l. eqb-true _ _ (or_rest (leb 160 misses) (eqb slow 0) (and_right s e h₁) (lt-leb 160 misses l));
      }

  pub is_counts : Counts misses slow → good_counts misses slow ≡ true
  unfolding good_counts
  is_counts c =
      and_both (le-leb misses 255 c.few)
      (and_both (le-leb slow 11 c.short)
      (or_from (leb 160 misses) (eqb slow 0) (λ f. eq-eqb slow 0 (c.early (leb-false 160 misses f)))))

-- the counts of a good record are in range
pub station_counts : (n : ℕ) (s : Station) → good_station n s ≡ true → good_counts s.misses s.slow ≡ true
unfolding good_station
station_counts n s h = and_left (good_counts s.misses s.slow) _ h

-- and those of a record that is zero
plain_zero : (s : Station) → plain s ≡ true → (s.misses ≡ 0) × (s.slow ≡ 0)
unfolding plain
plain_zero s h =
    let m = eqb s.misses 0 in
    (eqb-true _ _ (and_left m _ h), eqb-true _ _ (and_left (eqb s.slow 0) _ (and_right m _ h)))

pub plain_counts : (s : Station) → (good_counts s.misses s.slow && plain s) ≡ plain s
unfolding good_counts
plain_counts s = by_test (plain s)
    (λ y. rw ((plain_zero s y).0, (plain_zero s y).1))
    (λ f. and_fails (good_counts s.misses s.slow) (plain s) f ∙ sym f)

-- bytes in which a record stands that keeps the rules of number n
pub record Sound (n : ℕ) (r : List ℕ) : Type 0 where
  pub flags : flagged r ≡ true
  pub rules : good_station n (station_of r) ≡ true

-- nobody and the local user do
pub nobody_sound : (n : ℕ) → (n ≡ 0 → ⊥) → Sound n nobody
unfolding flagged good_station good_counts plain station_of low_first part zeros zero_at all
nobody_sound n ne = record { flags = refl; rules = rw (ne_eqb n 0 ne) }

pub local_sound : Sound 0 local_user
unfolding flagged good_station good_counts plain station_of low_first part zeros zero_at all
local_sound = record { flags = refl; rules = refl }

-- a flag is 0 or 1, reads back, and is written again as it was read
pub flag_small : (b : Bool) → flag b ≤ 1
unfolding flag
flag_small true = lit≤ tt
flag_small false = lit≤ tt

pub flag_back : (b : Bool) → eqb (flag b) 1 ≡ b
unfolding flag
flag_back true = refl
flag_back false = refl

flag_again : (n : ℕ) → n ≤ 1 → flag (eqb n 1) ≡ n
unfolding flag
flag_again n h = by_test (eqb n 1)
    (λ y. rw y (sym (eqb-true n 1 y)))
    (λ f. rw f (omega (arith, eqb-false n 1 f)))

-- four parts put down one after the other, as long together as what they are put into
pub put_four : (l a b c d : List ℕ) (i j k : ℕ) → length a ≡ i → i + length b ≡ j → j + length c ≡ k → k + length d ≡ length l → put (put (put (put l 0 a) i b) j c) k d ≡ a ++ (b ++ (c ++ d))
put_four l a b c d i j k x y z w =
    rw (
      over_first l a,
      over_next l a b i x (omega arith),
      over_next l (a ++ b) c j (length-append a b ∙ omega arith) (omega arith),
      over_next l ((a ++ b) ++ c) d k (simp length-append (omega arith)) (omega arith),
      drop_of_length-le l {i = length (((a ++ b) ++ c) ++ d)} (simp length-append (omega arith)),
    )
    (simp (append_assoc, append-nil))

-- the fields of a station stand in its bytes
module _ (s : Station) where
  pub logged_bytes_of : get_or (bytes_of s) 0 0 ≡ flag s.logged
  unfolding bytes_of
  logged_bytes_of = refl

  misses_bytes_of : s.misses < 65536 → low_first (part (bytes_of s) 1 2) ≡ s.misses
  unfolding bytes_of low_bytes part
  misses_bytes_of fits = low_back 2 s.misses fits

  slow_bytes_of : get_or (bytes_of s) 3 0 ≡ s.slow
  unfolding bytes_of low_bytes
  slow_bytes_of = refl

  -- the bytes before the name, and those after the serial
  abbrev front : List ℕ
  front = flag s.logged ∷ (low_bytes 2 s.misses ++ (s.slow ∷ []))

  abbrev back : List ℕ
  back = s.product ∷ flag s.found ∷ []

  module _ (name : length s.name ≡ 8) (serial : length s.serial ≡ 4) where
    pub length_bytes_of : length (bytes_of s) ≡ 18
    unfolding bytes_of
    length_bytes_of = simp (length-append, length_low_bytes) (omega arith)

    name_bytes_of : part (bytes_of s) 4 8 ≡ s.name
    unfolding bytes_of low_bytes
    name_bytes_of = part_mid front s.name 4 8 refl name (s.serial ++ back)

    serial_bytes_of : part (bytes_of s) 12 4 ≡ s.serial
    unfolding bytes_of low_bytes
    serial_bytes_of = part_mid (front ++ s.name) s.serial 12 4 (omega arith) serial back

    pub back_bytes_of : (k : ℕ) → get_or (bytes_of s) (16 + k) 0 ≡ get_or back k 0
    unfolding bytes_of low_bytes
    back_bytes_of k =
        let long : length ((front ++ s.name) ++ s.serial) ≡ 16 = simp length-append (omega arith) in
        rw (← long, ← append_assoc (front ++ s.name) s.serial back) (get_or-append-add ((front ++ s.name) ++ s.serial) back k 0)

    -- a station reads back from its bytes
    pub station_back : s.misses < 65536 → station_of (bytes_of s) ≡ s
    unfolding station_of
    station_back fits =
        rw (
          logged_bytes_of,
          misses_bytes_of fits,
          slow_bytes_of,
          name_bytes_of,
          serial_bytes_of,
          back_bytes_of 0,
          back_bytes_of 1,
          flag_back s.logged,
          flag_back s.found,
        )

    -- its flags are 0 or 1
    pub bytes_of_flagged : flagged (bytes_of s) ≡ true
    unfolding flagged
    bytes_of_flagged = and_both
        (le-leb (get_or (bytes_of s) 0 0) 1 (rw logged_bytes_of (flag_small s.logged)))
        (le-leb (get_or (bytes_of s) 17 0) 1 (rw (back_bytes_of 1) (flag_small s.found)))

    -- the record of a station that is logged in, with its counts in range
    pub bytes_of_sound : s.logged ≡ true → good_counts s.misses s.slow ≡ true → (n : ℕ) → (n ≡ 0 → ⊥) → Sound n (bytes_of s)
    unfolding good_station
    bytes_of_sound logged counts n ne = record {
      flags = bytes_of_flagged;
      rules = rw (station_back (omega (arith, (counts_is _ _ counts).few)), counts, ne_eqb n 0 ne, logged);
    }

-- a record by its fields
module _ (r : List ℕ) (full : length r ≡ 18) where
  back_again : get_or r 16 0 ∷ get_or r 17 0 ∷ [] ≡ drop 16 r
  back_again =
      sym (two_bytes r 16 (omega arith))
      ∙ sym (append-nil (part r 16 2))
      ∙ rw (← drop_of_length-le r {i = 18} (omega arith)) (part_rest r 16 2)

  laid : get_or r 0 0 ∷ (part r 1 2 ++ (get_or r 3 0 ∷ (part r 4 8 ++ (part r 12 4 ++ (get_or r 16 0 ∷ get_or r 17 0 ∷ []))))) ≡ r
  laid =
      rw (
        back_again,
        part_rest r 12 4,
        part_rest r 4 8,
        ← drop-cons r 3 0 (omega arith),
        part_rest r 1 2,
      )
      (sym (drop-cons r 0 0 (omega arith)))

  -- it is written again as it was read, where its flags are 0 or 1
  pub bytes_again : ((i : ℕ) → get_or r i 0 < 256) → flagged r ≡ true → bytes_of (station_of r) ≡ r
  unfolding bytes_of station_of flagged
  bytes_again bytes flags =
      let a = leb (get_or r 0 0) 1 in
      let b = leb (get_or r 17 0) 1 in
      rw (
        flag_again (get_or r 0 0) (leb-true _ _ (and_left a b flags)),
        flag_again (get_or r 17 0) (leb-true _ _ (and_right a b flags)),
        part_back r 1 2 bytes (omega arith),
      )
      laid

-- a cleared record, as a struct and in bytes
pub vacant_bytes : bytes_of vacant ≡ nobody
unfolding bytes_of low_bytes flag
vacant_bytes = refl
