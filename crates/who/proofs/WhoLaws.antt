-- The laws of the 64 records: their rules as facts, who is logged in, what a login and a logout change and what they leave, the lowest free number, and the fresh records.
use Prim.Native.Nat.{ℕ, ◌+◌, ◌*◌, ◌/◌, ◌≤◌, ◌<◌}
use native.Mathlib.Nat.{add-zero}
use native.Mathlib.Omega.{arith}
use mathlib.Core.Path.{◌≡◌, refl, sym, ap, ◌∙◌}
use mathlib.Core.Bool.{true, false, not, cond}
use mathlib.Core.List.{List, append-nil}
use lib.Dec.{eqb, leb, ltb, lit<}
use lib.ListN.{length, get_or, drop_of_length-le}
use borrow.Author.Tests.{eq-eqb, ne_eqb, ltb-true, ltb-false, lt-ltb, le-ltb, leb-true, le-leb, not-true, not-false}
use Rattle.rows.proofs.BoolLaws.{by_test, by_eq, both, and_left, and_right, and_both}
use Rattle.rows.proofs.IndexLaws.{first_least, all_at, all_from, first_found, found_if}
use Rattle.rows.proofs.RowLaws.{copies_front, row_copies, get_d_part, over_first, length_copies, length_set_row, row_set_row, row_set_row_other}
use Rattle.rows.specs.Words.{all, first}
use Rattle.rows.specs.Rows.{put, over, copies, row, set_row}
use Rattle.rows.specs.Numbers.{bit_at}
use Rattle.who.specs.declared.Station.{Station}
use Rattle.who.specs.Records.{bytes_of, station_of, nobody, local_user}
use Rattle.who.specs.Good.{good_counts, numbers, good_row, is_row, stations_of, good_records}
use Rattle.who.specs.Row.{is_in}
use Rattle.who.specs.Inner.{word_of}
use Rattle.who.specs.Logins.{record_count, logged_in, free_number, lowest_number, after_login, after_logout, fresh_records}
use Rattle.who.proofs.RecordLaws.{Sound, nobody_sound, local_sound, flag_back, logged_bytes_of, length_bytes_of, bytes_of_sound}
use Rattle.who.proofs.RowLaws.{in_past, word_in, length_stations, station_read, rules_at, row_each, row_is, is_row_lem}

-- the record of a number that is logged in stands in the bytes
pub logged_inside : (w : List ℕ) (n : ℕ) → logged_in w n ≡ true → 18 * n + 18 ≤ length w
unfolding logged_in
logged_inside w n y = let below : n < record_count w = ltb-true _ _ (and_left (ltb n (record_count w)) (eqb (get_or w (18 * n) 0) 1) y) in omega arith

-- records that keep the rules
pub record Good (w : List ℕ) : Type 0 where
  pub sized : length w ≡ 18 * numbers
  pub each : (n : ℕ) → n < numbers → Sound n (row 18 w n)

module _ (w : List ℕ) where
  pub good_is : good_records w ≡ true → Good w
  unfolding good_records
  good_is h =
      let r = row_is w (and_left (is_row w) (good_row (stations_of w)) h) in
      let rules : all (rules_at w) numbers ≡ true = sym (row_each w) ∙ and_right (is_row w) (good_row (stations_of w)) h in
      record { sized = r.sized; each = λ n l. record { flags = r.flags n l; rules = all_at (rules_at w) numbers n rules l } }

  pub is_good : Good w → good_records w ≡ true
  unfolding good_records
  is_good g = and_both
      (is_row_lem w (record { sized = g.sized; flags = λ n l. (g.each n l).flags }))
      (row_each w ∙ all_from (rules_at w) numbers (λ n l. (g.each n l).rules))

-- who is logged in, by the first byte of the record; nobody past the last number
module _ (w : List ℕ) (sized : length w ≡ 18 * numbers) where
  counted : record_count w ≡ numbers
  counted = ap (λ (k : ℕ). k / 18) sized

  pub logged_at : (n : ℕ) → n < numbers → logged_in w n ≡ eqb (get_or (row 18 w n) 0 0) 1
  unfolding logged_in
  logged_at n l = rw (counted, lt-ltb n numbers l, get_d_part w (18 * n) 18 0 (lit< tt), add-zero)

  logged_past : (n : ℕ) → numbers ≤ n → logged_in w n ≡ false
  unfolding logged_in
  logged_past n h = rw (counted, le-ltb n numbers h)

  pub logged_below : (n : ℕ) → logged_in w n ≡ true → n < numbers
  logged_below n y = by_test (ltb n numbers) (ltb-true n numbers) (λ f. both y (logged_past n (ltb-false n numbers f)))

  -- the same as in the row that stands in the bytes
  pub stations_logged : (n : ℕ) → is_in (stations_of w) n ≡ logged_in w n
  unfolding is_in station_of
  stations_logged n = by_test (ltb n numbers)
      (λ y. let l = ltb-true n numbers y in ap (λ (s : Station). s.logged) (station_read w n l) ∙ sym (logged_at n l))
      (λ f. let out = ltb-false n numbers f in in_past (stations_of w) n (omega (arith, length_stations w)) ∙ sym (logged_past n out))

  -- and as in the word of that row
  pub word_logged : (word : ℕ) → word ≡ word_of (stations_of w) → bit_at word ≡ logged_in w
  word_logged word is = ap bit_at is ∙ (λ d n. (word_in (stations_of w) n ∙ stations_logged n) d)

-- record n set to r
module _ (w : List ℕ) (sized : length w ≡ 18 * numbers) (n : ℕ) (b : n < numbers) (r : List ℕ) (full : length r ≡ 18) where
  room : 18 * numbers ≤ length w
  room = omega arith

  set_sized : length (set_row 18 w n r) ≡ 18 * numbers
  set_sized = length_set_row 18 numbers w room n b r full ∙ sized

  set_same : row 18 (set_row 18 w n r) n ≡ r
  set_same = row_set_row 18 numbers w room n b r full

  set_other : (m : ℕ) → (m ≡ n → ⊥) → row 18 (set_row 18 w n r) m ≡ row 18 w m
  set_other = row_set_row_other 18 numbers w room n b r full

  set_each : Sound n r → ((m : ℕ) → m < numbers → (m ≡ n → ⊥) → Sound m (row 18 w m)) → (m : ℕ) → m < numbers → Sound m (row 18 (set_row 18 w n r) m)
  set_each fine each m l = by_eq m n
      (λ e. rw (e, set_same) fine)
      (λ ne. rw (set_other m ne) (each m l ne))

  -- who is logged in then
  pub set_logged : (m : ℕ) → logged_in (set_row 18 w n r) m ≡ cond (eqb m n) (eqb (get_or r 0 0) 1) (logged_in w m)
  set_logged m = by_eq m n
      (λ e. rw (e, eq-eqb n n refl) (logged_at (set_row 18 w n r) set_sized n b ∙ rw set_same))
      (λ ne. rw (ne_eqb m n ne) (by_test (ltb m numbers)
      (λ y. let l = ltb-true m numbers y in
      logged_at (set_row 18 w n r) set_sized m l ∙ rw (set_other m ne) (sym (logged_at w sized m l)))
      (λ f. let h = ltb-false m numbers f in
      logged_past (set_row 18 w n r) set_sized m h ∙ sym (logged_past w sized m h))))

-- every record can be set to one that keeps the rules of its number
set_good : (w : List ℕ) → good_records w ≡ true → (n : ℕ) → n < numbers → (r : List ℕ) → length r ≡ 18 → Sound n r → good_records (set_row 18 w n r) ≡ true
set_good w good n b r full fine =
    let g = good_is w good in
    is_good (set_row 18 w n r) (record {
      sized = set_sized w g.sized n b r full;
      each = set_each w g.sized n b r full fine (λ m l ne. g.each m l);
    })

-- a station that is logged in, with its counts in range, put down as record n
pub login_good : (w : List ℕ) → good_records w ≡ true → (n : ℕ) → 1 ≤ n → n < numbers → (s : Station) → length s.name ≡ 8 → length s.serial ≡ 4 → s.logged ≡ true → good_counts s.misses s.slow ≡ true → good_records (after_login w n s) ≡ true
unfolding after_login
login_good w good n least b s name serial logged counts =
    set_good w good n b (bytes_of s) (length_bytes_of s name serial) (bytes_of_sound s name serial logged counts n (λ e. omega arith))

-- record n cleared
pub logout_good : (w : List ℕ) → good_records w ≡ true → (n : ℕ) → 1 ≤ n → n < numbers → good_records (after_logout w n) ≡ true
unfolding after_logout
logout_good w good n least b = set_good w good n b nobody refl (nobody_sound n (λ e. omega arith))

-- after a login and after a logout: who is logged in, and that the other records stay
module _ (w : List ℕ) (sized : length w ≡ 18 * numbers) (n : ℕ) (b : n < numbers) where
  module _ (s : Station) (name : length s.name ≡ 8) (serial : length s.serial ≡ 4) where
    pub login_logged : (m : ℕ) → logged_in (after_login w n s) m ≡ cond (eqb m n) s.logged (logged_in w m)
    unfolding after_login
    login_logged m =
        set_logged w sized n b (bytes_of s) (length_bytes_of s name serial) m
        ∙ rw (logged_bytes_of s, flag_back s.logged)

    pub login_other : (m : ℕ) → (m ≡ n → ⊥) → row 18 (after_login w n s) m ≡ row 18 w m
    unfolding after_login
    login_other = set_other w sized n b (bytes_of s) (length_bytes_of s name serial)

  pub logout_logged : (m : ℕ) → logged_in (after_logout w n) m ≡ cond (eqb m n) false (logged_in w m)
  unfolding after_logout
  logout_logged = set_logged w sized n b nobody refl

  pub logout_same : row 18 (after_logout w n) n ≡ nobody
  unfolding after_logout
  logout_same = set_same w sized n b nobody refl

  pub logout_other : (m : ℕ) → (m ≡ n → ⊥) → row 18 (after_logout w n) m ≡ row 18 w m
  unfolding after_logout
  logout_other = set_other w sized n b nobody refl

-- the lowest free number
module _ (w : List ℕ) where
  free : (n : ℕ) → free_number w n ≡ true → (1 ≤ n) × (logged_in w n ≡ false)
  unfolding free_number
  free n h = (leb-true 1 n (and_left (leb 1 n) (not (logged_in w n)) h), not-true _ (and_right (leb 1 n) (not (logged_in w n)) h))

  taken : (n : ℕ) → 1 ≤ n → free_number w n ≡ false → logged_in w n ≡ true
  unfolding free_number
  taken n l h = not-false _ (rw (le-leb 1 n l) at h)

  module _ (sized : length w ≡ 18 * numbers) where
    lowest_first : lowest_number w ≡ first (free_number w) numbers
    unfolding lowest_number
    lowest_first = ap (first (free_number w)) (counted w sized)

    pub below_lowest : (m : ℕ) → 1 ≤ m → m < lowest_number w → logged_in w m ≡ true
    below_lowest m l b = taken m l (first_least (free_number w) numbers m (rw lowest_first at b))

    -- where there is one, it is free and every number before it is taken
    pub lowest_number_is : lowest_number w < numbers → (1 ≤ lowest_number w) × (logged_in w (lowest_number w) ≡ false) × ((m : ℕ) → 1 ≤ m → m < lowest_number w → logged_in w m ≡ true)
    lowest_number_is b =
        let found = found_if (free_number w) numbers (rw lowest_first at b) in
        let here = free (lowest_number w) (rw lowest_first (first_found (free_number w) numbers found).1) in
        (here.0, here.1, below_lowest)

-- the fresh records are 64 times nobody, with user 0 put down over the first
abbrev empty : List ℕ
empty = copies numbers nobody

empty_sized : length empty ≡ 18 * numbers
empty_sized = length_copies numbers nobody

empty_row : (n : ℕ) → n < numbers → row 18 empty n ≡ nobody
empty_row n b = row_copies 18 nobody refl numbers n b

fresh_is : fresh_records ≡ set_row 18 empty 0 local_user
unfolding fresh_records
fresh_is = sym (over_first empty local_user ∙ rw (copies_front 63 nobody))

-- as they are made in lent bytes
pub fresh_made : (w : List ℕ) → length w ≡ 18 * numbers → put (over (copies numbers nobody) w) 0 local_user ≡ fresh_records
fresh_made w sized =
    ap (λ (l : List ℕ). put l 0 local_user) (rw (drop_of_length-le w {i = length empty} (omega (arith, empty_sized))) (append-nil empty))
    ∙ sym fresh_is

-- they keep the rules
pub fresh_good : good_records fresh_records ≡ true
fresh_good = is_good fresh_records (record {
  sized = rw fresh_is (set_sized empty empty_sized 0 (lit< tt) local_user refl);
  each = rw fresh_is (set_each empty empty_sized 0 (lit< tt) local_user refl local_sound (λ m b ne. rw (empty_row m b) (nobody_sound m ne)));
})
