-- What a poll turn does to good tables, as one view, and to everybody: tables stay good, all others keep records and locks.
use Prim.Native.Nat.{ℕ, ◌<◌}
use native.Mathlib.Omega.{arith}
use mathlib.Core.Path.{◌≡◌, refl, sym, ap, ◌∙◌}
use mathlib.Core.Bool.{Bool, true, false}
use mathlib.Core.List.{List, []}
use lib.ListN.{length}
use borrow.Author.Tests.{eq-eqb, ne_eqb}
use Rattle.rows.proofs.BoolLaws.{by_test, by_eq}
use Rattle.rows.proofs.RowLaws.{length_row, length_part, row_set_row}
use Rattle.rows.specs.Rows.{row, set_row}
use Rattle.terms.specs.declared.LockString.{LockString}
use Rattle.who.specs.declared.Station.{Station}
use Rattle.who.specs.Records.{bytes_of, station_of}
use Rattle.who.specs.Good.{good_counts, numbers}
use Rattle.who.specs.Logins.{logged_in, after_login, after_logout}
use Rattle.who.proofs.RecordLaws.{counts_is, length_bytes_of, station_back, vacant_bytes}
use Rattle.who.proofs.TurnLaws.{turn_good}
use Rattle.who.proofs.WhoLaws.{good_is, logged_at, login_good, login_logged, login_other, logout_other}
use Rattle.locks.specs.Good.{locks, good_locks}
use Rattle.locks.specs.Table.{cleared_table}
use Rattle.locks.specs.Holding.{has}
use Rattle.locks.proofs.Keeps.{login_keeps}
use Rattle.std.specs.Prelude.{Result, Ok, Err}
use Rattle.refusals.specs.declared.Refusal.{Refusal}
use Rattle.refusals.specs.Refusals.{number}
use Rattle.refusals.specs.Outcomes.{refusal_in}
use Rattle.refusals.proofs.OutcomeLaws.{number_one}
use Rattle.master.specs.declared.Turned.{Turned}
use Rattle.master.specs.Tables.{good_tables}
use Rattle.master.specs.Answers.{refuses, answers, turn_was, done_told, turn_told}
use Rattle.master.specs.Polls.{station_at, with_counts, after_turn, poll_refusal, due_now, out_now, station_turn, poll_effect}
use Rattle.master.proofs.TableLaws.{records_good, locks_good, tables_are, logout_out, logout_tables}
use Rattle.master.proofs.Keeps.{cleared_others}
use Rattle.master.proofs.PollLaws.{seated, polled_below, polled_counts}
use Rattle.master.specs.Effects.{Effect, telling, unless, Does}
use Rattle.master.proofs.EffectLaws.{does_one, refused_does}
use Rattle.master.proofs.Outcomes.{no_answer}

module _ (n : ℕ) (heard : Bool) (t w : List ℕ) where
  -- refused: nothing changes. Turned: the counts of n change and nothing else. Dropped: n is logged out
  pub data TurnDeed : Effect (List ℕ) → Type 0 where
    refused : (k : ℕ) → (k ≡ 0 → ⊥) → TurnDeed (telling (refuses k) t w)
    turned : logged_in w n ≡ true → (n ≡ 0 → ⊥) → out_now (station_at w n) heard ≡ false
        → TurnDeed (telling (answers (turn_was (due_now (station_at w n)) false)) t (set_row 18 w n (bytes_of (after_turn (station_at w n) heard))))
    dropped : logged_in w n ≡ true → (n ≡ 0 → ⊥) → out_now (station_at w n) heard ≡ true
        → TurnDeed (telling (answers (turn_was (due_now (station_at w n)) true)) (cleared_table t n) (after_logout w n))

  pub turn_deed : TurnDeed (poll_effect n heard t w)
  unfolding poll_effect poll_refusal unless station_turn after_logout
  turn_deed = by_eq (poll_refusal n heard t w) 0
      (λ z.
      let p = seated (good_tables t w) (logged_in w) n heard (due_now (station_at w n)) z in
      by_test (out_now (station_at w n) heard)
      (λ y. rw (z, y, vacant_bytes) (dropped p.is_in_lem p.not_local y))
      (λ m. rw (z, m) (turned p.is_in_lem p.not_local m)))
      (λ ne. rw (ne_eqb (poll_refusal n heard t w) 0 ne) (refused (poll_refusal n heard t w) ne))

  module _ (good : good_tables t w ≡ true) where
    sized : length w ≡ 1152
    sized = (good_is w (records_good t w good)).sized

    -- the station with its counts after a turn is still logged in, and its record is in order
    module _ (in-now : logged_in w n ≡ true) where
      below : n < numbers
      below = polled_below n t w good in-now

      after : Station
      after = after_turn (station_at w n) heard

      long : length (row 18 w n) ≡ 18
      long = length_row 18 numbers w (omega (arith, sized)) n below

      name_long : length after.name ≡ 8
      unfolding after after_turn with_counts station_at station_of
      name_long = length_part (row 18 w n) 4 8 (omega (arith, long))

      serial_long : length after.serial ≡ 4
      unfolding after after_turn with_counts station_at station_of
      serial_long = length_part (row 18 w n) 12 4 (omega (arith, long))

      still_in : after.logged ≡ true
      unfolding after after_turn with_counts station_at station_of
      still_in = sym (logged_at w sized n below) ∙ in-now

      pub turned_logged : (m : ℕ) → logged_in (set_row 18 w n (bytes_of (after_turn (station_at w n) heard))) m ≡ logged_in w m
      unfolding after after_login
      turned_logged m = login_logged w sized n below after name_long serial_long m ∙ by_eq m n
          (λ (e : m ≡ n). rw (e, eq-eqb n n refl, still_in) (sym in-now))
          (λ ne. rw (ne_eqb m n ne))

      -- and reads back as that station
      turned_counts : out_now (station_at w n) heard ≡ false → good_counts after.misses after.slow ≡ true
      unfolding after after_turn with_counts out_now
      turned_counts on = turn_good (station_at w n).misses (station_at w n).slow (polled_counts n t w good in-now) heard on

      pub turned_station : out_now (station_at w n) heard ≡ false → station_at (set_row 18 w n (bytes_of (after_turn (station_at w n) heard))) n ≡ after_turn (station_at w n) heard
      unfolding after station_at
      turned_station on =
          rw (row_set_row 18 numbers w (omega (arith, sized)) n below (bytes_of after) (length_bytes_of after name_long serial_long))
          (station_back after name_long serial_long (omega (arith, (counts_is _ _ (turned_counts on)).few)))

      turned_tables : (n ≡ 0 → ⊥) → out_now (station_at w n) heard ≡ false → good_tables t (set_row 18 w n (bytes_of (after_turn (station_at w n) heard))) ≡ true
      unfolding good_locks after after_login
      turned_tables ne on = tables_are _ _
          (login_good w (records_good t w good) n (omega arith) below after name_long serial_long still_in (turned_counts on))
          (login_keeps locks (logged_in w) t (locks_good t w good) _ (λ a i. turned_logged a ∙ i))

    -- good tables stay good
    turn_deed_keeps : (d : Effect (List ℕ)) → TurnDeed d → good_tables d.locks d.records ≡ true
    turn_deed_keeps _ (refused k ne) = good
    turn_deed_keeps _ (turned i ne on) = turned_tables i ne on
    turn_deed_keeps _ (dropped i ne out) = logout_tables t w good n i ne

    pub poll_keeps : good_tables (poll_effect n heard t w).locks (poll_effect n heard t w).records ≡ true
    poll_keeps = turn_deed_keeps _ turn_deed

    -- everybody else stays in, with the same record
    turn_others_in : (d : Effect (List ℕ)) → TurnDeed d → (m : ℕ) → (m ≡ n → ⊥) → (logged_in d.records m ≡ logged_in w m) × (row 18 d.records m ≡ row 18 w m)
    unfolding after after_login
    turn_others_in _ (refused k ne) m nm = (refl, refl)
    turn_others_in _ (turned i ne on) m nm = (turned_logged i m, login_other w sized n (below i) (after i) (name_long i) (serial_long i) m nm)
    turn_others_in _ (dropped i ne out) m nm = (logout_out t w good n i m ∙ rw (ne_eqb m n nm), logout_other w sized n (below i) m nm)

    pub poll_others_in : (m : ℕ) → (m ≡ n → ⊥) → (logged_in (poll_effect n heard t w).records m ≡ logged_in w m) × (row 18 (poll_effect n heard t w).records m ≡ row 18 w m)
    poll_others_in = turn_others_in _ turn_deed

    -- and holds what it held
    turn_others_have : (d : Effect (List ℕ)) → TurnDeed d → (m : ℕ) → (m ≡ n → ⊥) → (x : LockString) → has d.locks m x ≡ has t m x
    turn_others_have _ (refused k ne) m nm x = refl
    turn_others_have _ (turned i ne on) m nm x = refl
    turn_others_have _ (dropped i ne out) m nm x = cleared_others n [] [] t w good m nm x

    pub poll_others_have : (m : ℕ) → (m ≡ n → ⊥) → (x : LockString) → has (poll_effect n heard t w).locks m x ≡ has t m x
    poll_others_have = turn_others_have _ turn_deed

-- two answers that tell the same are equal, and so are any two outcomes of fresh tables and of a poll turn
pub done_told_one : (a b : Result (Unit {0}) Refusal) → done_told a ≡ done_told b → a ≡ b
unfolding done_told
done_told_one (Err j) (Err k) e = let same : number j ≡ number k = cc in ap Err (number_one j k same)
done_told_one (Err j) (Ok b) e = absurd (no_answer e)
done_told_one (Ok a) (Err k) e = absurd (no_answer (sym e))
done_told_one (Ok a) (Ok b) e = refl

pub fresh_one : {A : Type 0} {e : Effect A} {r r' : Result (Unit {0}) Refusal} {t₁ t₂ : List ℕ} {w₁ w₂ : A} → Does e (done_told r) t₁ w₁ → Does e (done_told r') t₂ w₂
    → (r ≡ r') × (t₁ ≡ t₂) × (w₁ ≡ w₂)
fresh_one a b = let one = does_one a b in (done_told_one _ _ one.0, one.1, one.2)

pub turn_told_one : (a b : Result Turned Refusal) → turn_told a ≡ turn_told b → a ≡ b
unfolding turn_told
turn_told_one (Err j) (Err k) e = let same : number j ≡ number k = cc in ap Err (number_one j k same)
turn_told_one (Err j) (Ok b) e = absurd (no_answer e)
turn_told_one (Ok a) (Err k) e = absurd (no_answer (sym e))
turn_told_one (Ok a) (Ok b) e =
    let due : a.due ≡ b.due = cc in
    let out : a.out ≡ b.out = cc in
    let same : a ≡ b = λ i. record { due = due i; out = out i } in
    ap Ok same

pub polls_one : {A : Type 0} {e : Effect A} {r r' : Result Turned Refusal} {t₁ t₂ : List ℕ} {w₁ w₂ : A} → Does e (turn_told r) t₁ w₁ → Does e (turn_told r') t₂ w₂
    → (r ≡ r') × (t₁ ≡ t₂) × (w₁ ≡ w₂)
polls_one a b = let one = does_one a b in (turn_told_one _ _ one.0, one.1, one.2)

-- what tells a refusal is one with its number
refusal_told_in : (r : Result Turned Refusal) (k : ℕ) → turn_told r ≡ refuses k → refusal_in r ≡ k
unfolding turn_told
refusal_told_in (Ok a) k e = absurd (no_answer (sym e))
refusal_told_in (Err q) k e = cc

-- a refused turn: the tables are what they were, and nothing is answered
pub refused_turn_untouched : {A : Type 0} (k : ℕ) (t : List ℕ) (w : A) (done : Effect A) (r : Result Turned Refusal) (t' : List ℕ) (w' : A) → Does (unless k t w done) (turn_told r) t' w' → (k ≡ 0 → ⊥)
    → (refusal_in r ≡ k) × (t' ≡ t) × (w' ≡ w)
refused_turn_untouched k t w done r t' w' a ne = let u = refused_does k t w done ne a in (refusal_told_in r k u.0, u.1, u.2)
