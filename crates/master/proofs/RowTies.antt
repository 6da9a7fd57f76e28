-- The poll turn over a row of records is the poll turn over the bytes in which it stands; only one outcome; a refusal leaves everything.
use Prim.Native.Nat.{ℕ, ◌*◌, ◌≤◌, ◌<◌}
use native.Mathlib.Omega.{arith}
use mathlib.Core.Path.{◌≡◌, refl, sym, ap, subst, ◌∙◌}
use mathlib.Core.Bool.{Bool, true, false}
use mathlib.Core.List.{List, []}
use lib.Dec.{ltb}
use lib.ListN.{length, take, set, drop_of_length-le, get_or-eq_default}
use lib.Seq.{get_or-set_same}
use borrow.Author.Tests.{ne_eqb, lt-ltb, ltb-true, ltb-false}
use Rattle.std.specs.Prelude.{Result, Ok, Err}
use Rattle.refusals.specs.declared.Refusal.{Refusal}
use Rattle.refusals.specs.declared.Refusal.TheVariants.{BadTables}
use Rattle.rows.proofs.BoolLaws.{by_test, by_eq}
use Rattle.rows.specs.Rows.{part, row, set_row}
use Rattle.rows.specs.Numbers.{low_first}
use Rattle.who.specs.declared.Station.{Station}
use Rattle.who.specs.Records.{station_of, bytes_of}
use Rattle.who.specs.Good.{numbers, good_row, is_row, stations_of, good_records}
use Rattle.who.specs.Logins.{logged_in}
use Rattle.who.specs.Row.{absent, station_in, is_in, bytes_of_row}
use Rattle.who.proofs.RowLaws.{row_is, length_stations, station_read}
use Rattle.who.proofs.RowBytes.{Long, LongRow, TypedRow, length_row_bytes, stations_again, row_stands, bytes_put}
use Rattle.who.proofs.WhoLaws.{logged_below, stations_logged}
use Rattle.locks.specs.Good.{locks, good_locks}
use Rattle.locks.proofs.GoodLaws.{sound_same}
use Rattle.master.specs.declared.Turned.{Turned}
use Rattle.master.specs.Answers.{answers, turn_was, turn_told}
use Rattle.master.specs.Tables.{good_tables}
use Rattle.master.specs.Refusals.{unknown}
use Rattle.master.specs.Polls.{station_at, with_counts, after_turn, poll_refusal, Polls, turn_refusal, due_now, out_now, station_turn, placing, poll_effect}
use Rattle.master.specs.RowPolls.{row_refusal, RowPolls, row_effect}
use Rattle.master.specs.Inner.{read_at as place_read, Lends, written_back}
use Rattle.master.proofs.Outcomes.{no_answer}
use Rattle.master.proofs.PollLaws.{seated, polls_refused, poll_bad_tables}
use Rattle.master.specs.Effects.{Effect, unless, Does}
use Rattle.master.proofs.EffectLaws.{refused_does}

-- a turn is told as a turn
turn_answers : (n : ℕ) (s : Station) (heard : Bool) (t : List ℕ) → (out : Bool) × ((station_turn n s heard t).tells ≡ answers (turn_was (due_now s) out))
unfolding station_turn
turn_answers n s heard t = by_test (out_now s heard) (λ y. (true, rw y)) (λ m. (false, rw m))

-- the row that stands in the bytes w
module _ (n : ℕ) (heard : Bool) (w t : List ℕ) (stands : is_row w ≡ true) where
  abbrev xs : List Station
  xs = stations_of w

  sized : length w ≡ 18 * numbers
  sized = (row_is w stands).sized

  same_locks : good_locks (is_in xs) t ≡ good_locks (logged_in w) t
  unfolding good_locks
  same_locks = sound_same locks t (is_in xs) (logged_in w) (stations_logged w sized)

  -- the same due in both, where a number has no record too
  past_row : numbers ≤ n → row 18 w n ≡ []
  unfolding part
  past_row h = ap (take 18) (drop_of_length-le w {i = 18 * n} (omega (arith, sized)))

  past_station : numbers ≤ n → station_in xs n ≡ absent
  unfolding station_in
  past_station h = get_or-eq_default xs absent {n = n} (omega (arith, length_stations w))

  same_due : due_now (station_in xs n) ≡ due_now (station_at w n)
  unfolding due_now station_at station_of part low_first
  same_due = by_test (ltb n numbers)
      (λ y. ap due_now (station_read w n (ltb-true n numbers y)))
      (λ m.
      let h = ltb-false n numbers m in
      ap due_now (past_station h) ∙ sym (ap (λ (r : List ℕ). due_now (station_of r)) (past_row h)))

  same_refusal : row_refusal n heard xs t ≡ poll_refusal n heard t w
  unfolding row_refusal poll_refusal turn_refusal good_tables good_records unknown
  same_refusal = rw (stands, same_locks, stations_logged w sized n, same_due)

  abbrev k : ℕ
  k = poll_refusal n heard t w

  read_at : n < numbers → station_in xs n ≡ station_at w n
  unfolding station_at
  read_at l = station_read w n l

  module _ (z : k ≡ 0) where
    below : n < numbers
    unfolding poll_refusal
    below = logged_below w sized n (seated (good_tables t w) (logged_in w) n heard (due_now (station_at w n)) z).is_in_lem

    read : station_in xs n ≡ station_at w n
    read = read_at below

    -- the turn of the record that stands in the bytes
    abbrev turn : Effect Station
    turn = station_turn n (station_at w n) heard t

    row_turn : row_effect n heard xs t ≡ placing (set xs n) turn
    unfolding row_effect unless
    row_turn = rw (same_refusal, z, read)

    poll_turn : poll_effect n heard t w ≡ placing (λ s. set_row 18 w n (bytes_of s)) turn
    unfolding poll_effect unless
    poll_turn = rw z

  -- refused as the row is; a turn is that of a number with a record, and written back it is the turn over w
  module _ (ys : List Station) (t' : List ℕ) where
    pub ties_refused : (r : Refusal) → RowPolls n heard xs t (Err r) ys t' → Polls n heard t w (Err r) t' w
    unfolding row_effect poll_effect unless turn_told
    ties_refused r a = by_eq k 0
        (λ z.
        let told = turn_answers n (station_at w n) heard t in
        absurd (no_answer ((rw (row_turn z) at a).answer ∙ told.1)))
        (λ ne.
        let m = ne_eqb k 0 ne in
        record { answer = a.answer ∙ rw (same_refusal, m); locks = a.locks ∙ rw (same_refusal, m); records = rw m })

    module _ (x : Turned) (a : RowPolls n heard xs t (Ok x) ys t') where
      turned : k ≡ 0
      unfolding row_effect unless turn_told
      turned = by_eq k 0 (λ z. z) (λ ne. absurd (no_answer {k = k} (sym (a.answer ∙ rw (same_refusal, ne_eqb k 0 ne)))))

      pub ties_below : n < numbers
      ties_below = below turned

      pub ties_turned : Polls n heard t w (Ok x) t' (set_row 18 w n (bytes_of (station_in ys n)))
      unfolding station_in
      ties_turned =
          let b = rw (row_turn turned) at a in
          let s = (turn turned).records in
          let back = ap (λ (l : List Station). station_in l n) b.records ∙ get_or-set_same xs n s absent (omega (arith, length_stations w, ties_below)) in
          rw (poll_turn turned) (record { answer = b.answer; locks = b.locks; records = ap (λ (s : Station). set_row 18 w n (bytes_of s)) back })

  -- the same where of the row that is left only the record read is known: the turn over w, where that is written back
  module _ (s : Station) (t' : List ℕ) where
    abbrev left : List Station
    left = (row_effect n heard xs t).records

    pub row_ties : (r : Result Turned Refusal) → Lends n heard w t r t' s → Polls n heard t w r t' (written_back n r s w)
    unfolding written_back place_read
    row_ties (Err r) a = ties_refused left t' r (record { answer = a.answer; locks = a.locks; records = refl })
    row_ties (Ok x) a =
        let b : RowPolls n heard xs t (Ok x) left t' = record { answer = a.answer; locks = a.locks; records = refl } in
        let own : s ≡ station_in left n = a.records ∙ rw (lt-ltb n numbers (ties_below left t' x b)) refl in
        rw own (ties_turned left t' x b)

-- bytes in which no row stands are bad tables
pub row_missing : (t w : List ℕ) → is_row w ≡ false → good_tables t w ≡ false
unfolding good_tables good_records
row_missing t w m = rw m

-- a turn keeps the lengths of a record's parts
turned_long : (n : ℕ) (s : Station) (heard : Bool) (t : List ℕ) → Long s → Long (station_turn n s heard t).records
unfolding station_turn after_turn with_counts
turned_long n s heard t h = by_test (out_now s heard)
    (λ y. rw y (record { name = refl; serial = refl }))
    (λ m. rw m (record { name = h.name; serial = h.serial }))

-- a poll turn over a row of records, in bytes before and after, is the poll turn over these bytes
module _ (n : ℕ) (heard : Bool) (ys : List Station) (t : List ℕ) (typed : TypedRow ys) (r : Result Turned Refusal) (ys' : List Station) (t' : List ℕ) (a : RowPolls n heard ys t r ys' t') where
  longs : LongRow ys
  longs i l = (typed i l).long

  abbrev bytes : List ℕ
  bytes = bytes_of_row ys

  module _ (sized : length ys ≡ numbers) where
    stands : is_row bytes ≡ true
    stands = row_stands ys longs sized

    same : stations_of bytes ≡ ys
    same = stations_again ys longs sized typed

    full_row : Polls n heard t bytes r t' (bytes_of_row ys')
    unfolding row_effect poll_effect unless
    full_row = by_eq (poll_refusal n heard t bytes) 0
        (λ z.
        let again = subst (λ (q : List Station). Does (row_effect n heard q t) (turn_told r) t' ys') (sym same) a in
        let b = rw (row_turn n heard bytes t stands z) at again in
        let s = (turn n heard bytes t stands z).records in
        let l = below n heard bytes t stands z in
        let h = turned_long n (station_at bytes n) heard t (rw (station_long l) (longs n (omega arith))) in
        let after : ys' ≡ set ys n s = b.records ∙ ap (λ (q : List Station). set q n s) same in
        rw (poll_turn n heard bytes t stands z) (record { answer = b.answer; locks = b.locks; records = ap bytes_of_row after ∙ bytes_put ys longs sized n l s h }))
        (λ ne.
        let m = ne_eqb (poll_refusal n heard t bytes) 0 ne in
        let refused : row_refusal n heard ys t ≡ poll_refusal n heard t bytes = ap (λ (q : List Station). row_refusal n heard q t) (sym same) ∙ same_refusal n heard bytes t stands in
        let kept : ys' ≡ ys = a.records ∙ rw (refused, m) in
        record { answer = a.answer ∙ rw (refused, m); locks = a.locks ∙ rw (refused, m); records = ap bytes_of_row kept ∙ rw m })
      where
        station_long : n < numbers → station_at bytes n ≡ station_in ys n
        station_long l = sym (read_at n heard bytes t stands l) ∙ rw same

  -- a row of another length is refused, and so are its bytes
  row_11 : (length ys ≡ numbers → ⊥) → row_refusal n heard ys t ≡ 11
  unfolding row_refusal turn_refusal good_row
  row_11 ne = rw (ne_eqb (length ys) numbers ne)

  bytes_11 : (length ys ≡ numbers → ⊥) → is_row bytes ≡ false
  unfolding is_row
  bytes_11 ne = rw (ne_eqb (length bytes) (18 * numbers) (λ e. ne (omega (arith, length_row_bytes ys longs))))

  other_size : (length ys ≡ numbers → ⊥) → Polls n heard t bytes r t' (bytes_of_row ys')
  unfolding row_effect turn_told
  other_size ne =
      let u = refused_does _ t ys _ (λ z. let lie : ◌≡◌ {A = ℕ} 11 0 = sym (row_11 ne) ∙ z in omega arith) a in
      let told : turn_told r ≡ turn_told (Err BadTables) = u.0 ∙ rw (row_11 ne) in
      let d = polls_refused n heard t bytes BadTables (poll_bad_tables n heard t bytes (row_missing t bytes (bytes_11 ne))) in
      record { answer = told ∙ d.answer; locks = u.1 ∙ d.locks; records = ap bytes_of_row u.2 ∙ d.records }

  pub row_encodes : Polls n heard t bytes r t' (bytes_of_row ys')
  row_encodes = by_eq (length ys) numbers full_row other_size
