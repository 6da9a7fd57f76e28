-- A row of records and its bytes, each from the other.
use Prim.Native.Nat.{ℕ, zero, suc, ◌+◌, ◌-◌, ◌*◌, ◌/◌, ◌%◌, ◌≤◌, ◌<◌}
use native.Mathlib.Nat.{not-suc-le-zero, le_of_suc-le-suc}
use native.Mathlib.Omega.{arith}
use mathlib.Core.Path.{◌≡◌, refl, sym, ap, ◌∙◌}
use mathlib.Core.Bool.{true}
use mathlib.Core.List.{List, [], ◌∷◌}
use lib.ListN.{length, get_or, set, length-append, length-set}
use lib.Seq.{ext_get_or, get_or-set_same, get_or-set_other}
use Rattle.rows.proofs.BoolLaws.{by_eq}
use Rattle.rows.proofs.RowLaws.{get_d_part, part_mid, part_right, length_set_row, row_set_row, row_set_row_other}
use Rattle.rows.specs.Rows.{part, row, set_row}
use Rattle.who.specs.declared.Station.{Station}
use Rattle.who.specs.Records.{bytes_of, station_of}
use Rattle.who.specs.Good.{numbers, is_row, stations_of}
use Rattle.who.specs.Row.{absent, station_in, bytes_of_row}
use Rattle.who.proofs.RecordLaws.{length_bytes_of, bytes_of_flagged, station_back}
use Rattle.who.proofs.RowLaws.{length_stations, station_read, is_row_lem}

-- what the language's types say of a record, and of a row of them
pub record Long (s : Station) : Type 0 where
  pub name : length s.name ≡ 8
  pub serial : length s.serial ≡ 4

pub record Typed (s : Station) : Type 0 where
  pub long : Long s
  pub misses : s.misses < 65536

abbrev pub LongRow : List Station → Type 0
LongRow xs = (i : ℕ) → i < length xs → Long (station_in xs i)

abbrev pub TypedRow : List Station → Type 0
TypedRow xs = (i : ℕ) → i < length xs → Typed (station_in xs i)

bytes_long : (s : Station) → Long s → length (bytes_of s) ≡ 18
bytes_long s h = length_bytes_of s h.name h.serial

-- two tables of n records with the same records are the same
rows_same : (n : ℕ) (a b : List ℕ) → length a ≡ 18 * n → length b ≡ 18 * n → ((i : ℕ) → i < n → row 18 a i ≡ row 18 b i) → a ≡ b
rows_same n a b la lb same = ext_get_or 0 a b (la ∙ sym lb) (λ k l.
    let i = k / 18 in
    let j = k % 18 in
    let e : 18 * i + j ≡ k = omega arith in
    let small : j < 18 = omega arith in
    ap (λ (m : ℕ). get_or a m 0) (sym e)
    ∙ sym (get_d_part a (18 * i) 18 j small)
    ∙ ap (λ (r : List ℕ). get_or r j 0) (same i (omega arith))
    ∙ get_d_part b (18 * i) 18 j small
    ∙ ap (λ (m : ℕ). get_or b m 0) e)

-- each record stands in the row's bytes
pub length_row_bytes : (xs : List Station) → LongRow xs → length (bytes_of_row xs) ≡ 18 * length xs
unfolding bytes_of_row station_in
length_row_bytes [] h = refl
length_row_bytes (s ∷ xs) h =
    length-append (bytes_of s) (bytes_of_row xs)
    ∙ omega (arith, bytes_long s (h 0 (omega arith)), length_row_bytes xs (λ i l. h (suc i) (omega arith)))

pub row_bytes : (xs : List Station) → LongRow xs → (i : ℕ) → i < length xs → row 18 (bytes_of_row xs) i ≡ bytes_of (station_in xs i)
unfolding bytes_of_row station_in
row_bytes [] h i l = absurd (not-suc-le-zero l)
row_bytes (s ∷ xs) h zero l = part_mid [] (bytes_of s) 0 18 refl (bytes_long s (h 0 l)) (bytes_of_row xs)
row_bytes (s ∷ xs) h (suc i) l =
    let here = bytes_long s (h 0 (omega arith)) in
    let at : 18 * suc i - length (bytes_of s) ≡ 18 * i = omega arith in
    part_right (bytes_of s) (bytes_of_row xs) (18 * suc i) 18 (omega arith)
    ∙ ap (λ (k : ℕ). part (bytes_of_row xs) k 18) at
    ∙ row_bytes xs (λ j b. h (suc j) (omega arith)) i (le_of_suc-le-suc l)

module _ (xs : List Station) (h : LongRow xs) (sized : length xs ≡ numbers) where
  bytes_sized : length (bytes_of_row xs) ≡ 18 * numbers
  bytes_sized = length_row_bytes xs h ∙ rw sized

  row_at : (n : ℕ) → n < numbers → row 18 (bytes_of_row xs) n ≡ bytes_of (station_in xs n)
  row_at n l = row_bytes xs h n (omega arith)

  long_at : (n : ℕ) → n < numbers → Long (station_in xs n)
  long_at n l = h n (omega arith)

  -- the row reads back
  pub stations_again : TypedRow xs → stations_of (bytes_of_row xs) ≡ xs
  unfolding station_in
  stations_again typed = ext_get_or absent (stations_of (bytes_of_row xs)) xs (length_stations (bytes_of_row xs) ∙ sym sized) (λ n l₀.
      let l : n < numbers = omega (arith, length_stations (bytes_of_row xs)) in
      let t = long_at n l in
      station_read (bytes_of_row xs) n l ∙ ap station_of (row_at n l) ∙ station_back (station_in xs n) t.name t.serial (typed n (omega arith)).misses)

  -- its flags are 0 or 1
  pub row_stands : is_row (bytes_of_row xs) ≡ true
  row_stands = is_row_lem (bytes_of_row xs) (record {
    sized = bytes_sized;
    flags = λ n l. let t = long_at n l in rw (row_at n l) (bytes_of_flagged (station_in xs n) t.name t.serial);
  })

  -- a record put into the row is put into its bytes
  module _ (n : ℕ) (l : n < numbers) (s : Station) (t : Long s) where
    pub put_same : station_in (set xs n s) n ≡ s
    unfolding station_in
    put_same = get_or-set_same xs n s absent (omega arith)

    put_other : (i : ℕ) → (i ≡ n → ⊥) → station_in (set xs n s) i ≡ station_in xs i
    unfolding station_in
    put_other i ne = get_or-set_other xs n i s absent ne

    put_long : LongRow (set xs n s)
    put_long i b = by_eq i n
        (λ e. rw (e, put_same) t)
        (λ ne. rw (put_other i ne) (h i (rw (length-set xs n s) at b)))

    pub bytes_put : bytes_of_row (set xs n s) ≡ set_row 18 (bytes_of_row xs) n (bytes_of s)
    bytes_put =
        let room : 18 * numbers ≤ length (bytes_of_row xs) = omega (arith, bytes_sized) in
        let full = bytes_long s t in
        rows_same numbers (bytes_of_row (set xs n s)) (set_row 18 (bytes_of_row xs) n (bytes_of s))
        (length_row_bytes (set xs n s) put_long ∙ rw (length-set xs n s, sized))
        (length_set_row 18 numbers (bytes_of_row xs) room n l (bytes_of s) full ∙ bytes_sized)
        (λ i b. row_bytes (set xs n s) put_long i (rw (length-set xs n s, sized) b) ∙ by_eq i n
        (λ e. rw (e, put_same, row_set_row 18 numbers (bytes_of_row xs) room n l (bytes_of s) full))
        (λ ne. rw (put_other i ne, row_set_row_other 18 numbers (bytes_of_row xs) room n l (bytes_of s) full i ne, row_at i b)))
