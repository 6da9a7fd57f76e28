-- The cases of a poll turn over a row, one law each: a number that the word lets pass, the turn of one record, and what it makes of the row.
use Prim.Native.Nat.{ℕ, ◌<◌, ◌^◌}
use native.Mathlib.Omega.{arith}
use mathlib.Core.Path.{◌≡◌, sym, ap, subst, ◌∙◌}
use mathlib.Core.Bool.{Bool, true, false, cond, not, ◌&&◌}
use mathlib.Core.List.{List}
use lib.Dec.{eqb, ltb}
use lib.ListN.{length, set}
use lib.Seq.{set-get_or}
use borrow.Author.Tests.{ne_eqb, ltb-true, ltb-false}
use lib.Pow.{pow_mono}
use Rattle.std.specs.Prelude.{Option, Some, None, Result, Ok, Err}
use Rattle.refusals.specs.declared.Refusal.{Refusal}
use Rattle.refusals.specs.declared.Refusal.TheVariants.{BadTables, HeardTooEarly}
use Rattle.refusals.specs.Refusals.{number}
use Rattle.refusals.proofs.OutcomeLaws.{number_never_0}
use Rattle.rows.proofs.BoolLaws.{by_test, by_eq, both}
use Rattle.rows.proofs.NumberLaws.{bit_past}
use Rattle.rows.specs.Numbers.{bit_at}
use Rattle.who.specs.declared.Station.{Station}
use Rattle.who.specs.declared.Turn.{Turn}
use Rattle.who.specs.Good.{numbers, good_row, good_counts}
use Rattle.who.specs.Row.{vacant, absent, station_in, is_in}
use Rattle.who.specs.Inner.{word_of, roll_of}
use Rattle.who.specs.Turns.{turn_of}
use Rattle.who.proofs.RecordLaws.{station_counts}
use Rattle.who.proofs.RowLaws.{good_is, word_fits, word_in}
use Rattle.locks.specs.Good.{locks, good_locks}
use Rattle.locks.specs.Table.{cleared_table}
use Rattle.locks.proofs.GoodLaws.{sound_same}
use Rattle.master.specs.declared.Turned.{Turned}
use Rattle.master.specs.Refusals.{unknown}
use Rattle.master.specs.Polls.{with_counts, after_turn, turn_refusal, due_now, out_now, station_turn}
use Rattle.master.specs.RowPolls.{row_refusal, RowPolls, row_effect}
use Rattle.master.specs.Answers.{turn_told}
use Rattle.master.specs.Effects.{unless}
use Rattle.master.specs.Inner.{seat_refusal, early, MakesTurn}
use Rattle.master.proofs.EffectLaws.{refusing}
use Rattle.master.proofs.PollLaws.{seated, refusal_last}

-- the turn of the record s, decided as r
module _ (n : ℕ) (heard : Bool) (s : Station) (t : List ℕ) (r : Turn) (decided : r ≡ turn_of s.misses s.slow heard) where
  due_is : r.due ≡ due_now s
  unfolding turn_of due_now
  due_is = ap (λ (x : Turn). x.due) decided

  out_is : r.out ≡ out_now s heard
  unfolding turn_of out_now
  out_is = ap (λ (x : Turn). x.out) decided

  after_is : with_counts s r.misses r.slow ≡ after_turn s heard
  unfolding turn_of after_turn
  after_is = ap (λ (x : Turn). with_counts s x.misses x.slow) decided

  early_is : (heard && not r.due) ≡ (heard && not (due_now s))
  early_is = ap (λ (b : Bool). heard && not b) due_is

  -- 12; a turn that ends in a logout; a turn that does not
  pub turns_12 : (heard && not r.due) ≡ true → MakesTurn n s heard t (Err HeardTooEarly) t s
  unfolding early unless turn_told
  turns_12 y = let h = sym early_is ∙ y in record { answer = rw h; locks = rw h; records = rw h }

  module _ (m : (heard && not r.due) ≡ false) (x : Station) (t' : List ℕ) where
    pub turns_out : r.out ≡ true → x ≡ vacant → t' ≡ cleared_table t n → MakesTurn n s heard t (Ok (record { due = r.due; out = r.out })) t' x
    unfolding early unless station_turn turn_told
    turns_out y a b =
        let h = sym early_is ∙ m in
        let o : out_now s heard ≡ true = sym out_is ∙ y in
        record { answer = rw (h, o, due_is, y); locks = rw (h, o) b; records = rw (h, o) a }

    pub turns_on : r.out ≡ false → x ≡ with_counts s r.misses r.slow → t' ≡ t → MakesTurn n s heard t (Ok (record { due = r.due; out = r.out })) t' x
    unfolding early unless station_turn turn_told
    turns_on y a b =
        let h = sym early_is ∙ m in
        let o : out_now s heard ≡ false = sym out_is ∙ y in
        record { answer = rw (h, o, due_is, y); locks = rw (h, o) b; records = rw (h, o) (a ∙ after_is) }

-- a row has a word just where it keeps the rules
pub roll_none : (xs : List Station) → None ≡ roll_of xs → good_row xs ≡ false
unfolding roll_of
roll_none xs e = by_test (good_row xs) (λ y. absurd (never (rw y at e))) (λ m. m)
  where
    never : {k : ℕ} → ◌≡◌ {A = Option ℕ} None (Some k) → ⊥
    never h = let z : ◌≡◌ {A = ℕ} 0 1 = cc in omega arith

pub roll_some : (xs : List Station) (word : ℕ) → Some word ≡ roll_of xs → (good_row xs ≡ true) × (word ≡ word_of xs)
unfolding roll_of
roll_some xs word e = by_test (good_row xs) (λ y. (y, one (rw y at e))) (λ m. absurd (never (rw m at e)))
  where
    one : {j k : ℕ} → ◌≡◌ {A = Option ℕ} (Some j) (Some k) → j ≡ k
    one h = cc

    never : {k : ℕ} → ◌≡◌ {A = Option ℕ} (Some k) None → ⊥
    never h = let z : ◌≡◌ {A = ℕ} 0 1 = cc in omega arith

-- what the turn of the record of n makes of the row; a number that has none is refused
module _ (n : ℕ) (heard : Bool) (xs : List Station) (t : List ℕ) where
  -- a row that breaks the rules
  pub row_bad : good_row xs ≡ false → RowPolls n heard xs t (Err BadTables) xs t
  unfolding row_effect turn_told
  row_bad m =
      let bad : row_refusal n heard xs t ≡ 11 = unfold row_refusal turn_refusal in rw m in
      rw bad (refusing 11 t xs _ (λ e. omega arith))

  module _ (word : ℕ) (roll : Some word ≡ roll_of xs) where
    abbrev seat : ℕ
    seat = seat_refusal (good_locks (bit_at word) t) (bit_at word) n

    -- what the word refuses of a station with this due
    word_row : (due : Bool) → turn_refusal (good_locks (bit_at word) t) (bit_at word) n heard due ≡ turn_refusal (good_row xs && good_locks (is_in xs) t) (is_in xs) n heard due
    unfolding turn_refusal unknown good_locks
    word_row due = let r = roll_some xs word roll in rw (r.0, r.1, word_in xs n, sound_same locks t (bit_at (word_of xs)) (is_in xs) (word_in xs))

    row_split : row_refusal n heard xs t ≡ cond (eqb seat 0) (early (station_in xs n) heard) seat
    unfolding row_refusal early
    row_split = let due = due_now (station_in xs n) in sym (word_row due) ∙ refusal_last (good_locks (bit_at word) t) (bit_at word) n heard due

    pub row_refused : (r : Refusal) → number r ≡ seat → RowPolls n heard xs t (Err r) xs t
    unfolding row_effect turn_told
    row_refused r e =
        let same : row_refusal n heard xs t ≡ number r = row_split ∙ rw (sym e, ne_eqb (number r) 0 (number_never_0 r)) in
        rw same (refusing (number r) t xs _ (number_never_0 r))

    -- a number that is not refused has a record, with its counts in range
    module _ (z : 0 ≡ seat) where
      pub row_below : n < numbers
      unfolding seat_refusal
      row_below = by_test (ltb n numbers)
          (λ y. ltb-true n numbers y)
          (λ m. let fits : word < 2 ^ 64 = subst (λ (k : ℕ). word < 2 ^ k) (good_is xs (roll_some xs word roll).0).sized (rw (roll_some xs word roll).1 (word_fits xs)) in both (seated _ (bit_at word) n false true (sym z)).is_in_lem (bit_past word n (omega (arith, fits, pow_mono {i = 64} {j = n} (ltb-false n numbers m)))))

      pub row_inside : n < length xs
      row_inside = omega (arith, row_below, (good_is xs (roll_some xs word roll).0).sized)

      pub row_counted : good_counts (station_in xs n).misses (station_in xs n).slow ≡ true
      row_counted = station_counts n (station_in xs n) ((good_is xs (roll_some xs word roll).0).each n row_below)

      pub row_turned : (r : Result Turned Refusal) (s : Station) (t' : List ℕ) → MakesTurn n (station_in xs n) heard t r t' s → RowPolls n heard xs t r (set xs n s) t'
      unfolding row_effect unless station_in
      row_turned r s t' d =
          let k = early (station_in xs n) heard in
          let same : row_refusal n heard xs t ≡ k = row_split ∙ rw (sym z) in
          by_eq k 0
          (λ e. record {
            answer = d.answer ∙ rw (same, e);
            locks = d.locks ∙ rw (same, e);
            records = ap (set xs n) d.records ∙ rw (same, e);
          })
          (λ ne.
          let m = ne_eqb k 0 ne in record {
            answer = d.answer ∙ rw (same, m);
            locks = d.locks ∙ rw (same, m);
            records = ap (set xs n) d.records ∙ rw (same, m) (set-get_or xs n absent);
          })
