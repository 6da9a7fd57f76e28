-- Good tables, part by part, and what a login and a logout do to them: who is logged in then, and that they stay good.
use Prim.Native.Nat.{ℕ, ◌<◌, ◌≤◌}
use native.Mathlib.Omega.{arith}
use mathlib.Core.Path.{◌≡◌, refl, sym, ◌∙◌}
use mathlib.Core.Bool.{Bool, true, false, cond}
use mathlib.Core.List.{List}
use lib.Dec.{eqb, ltb}
use lib.ListN.{length}
use borrow.Author.Tests.{eq-eqb, ne_eqb, ltb-true}
use Rattle.rows.proofs.BoolLaws.{by_eq, by_test, both, refuted, and_left, and_right, and_both}
use Rattle.rows.proofs.RowLaws.{row_set_row}
use Rattle.terms.specs.declared.LockString.{LockString}
use Rattle.who.specs.Records.{bytes_of}
use Rattle.who.proofs.RecordLaws.{length_bytes_of, station_back}
use Rattle.who.specs.Good.{good_counts, good_records, numbers}
use Rattle.who.specs.Logins.{logged_in, lowest_number, logged_in_as, after_login, after_logout, fresh_records}
use Rattle.who.proofs.WhoLaws.{good_is, logged_below, lowest_number_is, login_good, login_logged, logout_good, logout_logged}
use Rattle.who.proofs.WhoLaws
use Rattle.locks.specs.Good.{locks, good_locks, fresh_locks}
use Rattle.locks.specs.Holding.{has}
use Rattle.locks.proofs.GoodLaws
use Rattle.locks.proofs.HoldingLaws.{held_in}
use Rattle.locks.proofs.Keeps.{login_keeps, logout_keeps, fresh_good}
use Rattle.locks.specs.Table.{cleared_table}
use Rattle.master.specs.Tables.{good_tables}
use Rattle.master.specs.Frames.{number_given}
use Rattle.master.specs.Polls.{station_at}

-- good tables, part by part
pub records_good : (t w : List ℕ) → good_tables t w ≡ true → good_records w ≡ true
unfolding good_tables
records_good t w good = and_left (good_records w) (good_locks (logged_in w) t) good

pub locks_good : (t w : List ℕ) → good_tables t w ≡ true → good_locks (logged_in w) t ≡ true
unfolding good_tables
locks_good t w good = and_right (good_records w) (good_locks (logged_in w) t) good

pub tables_are : (t w : List ℕ) → good_records w ≡ true → good_locks (logged_in w) t ≡ true → good_tables t w ≡ true
unfolding good_tables
tables_are t w r l = and_both r l

-- fresh tables are good
pub fresh_tables : good_tables fresh_locks fresh_records ≡ true
unfolding good_locks
fresh_tables = tables_are fresh_locks fresh_records WhoLaws.fresh_good (fresh_good (logged_in fresh_records))

module _ (t w : List ℕ) (good : good_tables t w ≡ true) where
  rg : good_records w ≡ true
  rg = records_good t w good

  pub sized : length w ≡ 1152
  sized = (good_is w rg).sized

  pub table : GoodLaws.Good locks (logged_in w) t
  unfolding good_locks
  table = GoodLaws.good_is locks (logged_in w) t (locks_good t w good)

  -- who is out holds nothing
  pub out_holds : (k : ℕ) → logged_in w k ≡ false → (x : LockString) → has t k x ≡ false
  out_holds k out x = sym (refuted (has t k x) (λ h. both (held_in table k x h) out))

  -- a number that is logged in is no free row's mark
  pub used_number : (n : ℕ) → logged_in w n ≡ true → n ≡ 0xFF → ⊥
  used_number n i e = omega (arith, logged_below w sized n i)

  -- the number that a login is given is one from 1 to 63 that was out
  pub record Free (k : ℕ) : Type 0 where
    pub first : 1 ≤ k
    pub below : k < numbers
    pub out : logged_in w k ≡ false

  pub given_free : (number_given w ≡ 0 → ⊥) → Free (number_given w)
  unfolding number_given
  given_free ne = by_test (ltb (lowest_number w) numbers)
      (λ y. let l = lowest_number_is w sized (ltb-true _ _ y) in rw y (record { first = l.0; below = ltb-true _ _ y; out = l.1 }))
      (λ m. absurd (ne (rw m)))

  -- a login: the number is logged in with what was sent, all who were in stay in, and good tables stay good
  module _ (k : ℕ) (free : Free k) (name serial : List ℕ) (product : ℕ) (found : Bool) (n8 : length name ≡ 8) (s4 : length serial ≡ 4) where
    pub login_in_lem : (m : ℕ) → logged_in (after_login w k (logged_in_as name serial product found)) m ≡ cond (eqb m k) true (logged_in w m)
    unfolding logged_in_as
    login_in_lem m = login_logged w sized k free.below (logged_in_as name serial product found) n8 s4 m

    pub login_stays : (m : ℕ) → logged_in w m ≡ true → logged_in (after_login w k (logged_in_as name serial product found)) m ≡ true
    login_stays m i = by_eq m k
        (λ e. login_in_lem m ∙ rw (eq-eqb m k e))
        (λ ne. login_in_lem m ∙ rw (ne_eqb m k ne) i)

    pub login_station : station_at (after_login w k (logged_in_as name serial product found)) k ≡ logged_in_as name serial product found
    unfolding station_at after_login logged_in_as
    login_station =
        let x = logged_in_as name serial product found in
        rw (row_set_row 18 numbers w (omega (arith, sized)) k free.below (bytes_of x) (length_bytes_of x n8 s4)) (station_back x n8 s4 (omega arith))

    pub login_tables : good_tables t (after_login w k (logged_in_as name serial product found)) ≡ true
    unfolding good_locks logged_in_as good_counts
    login_tables = tables_are _ _
        (login_good w rg k free.first free.below (logged_in_as name serial product found) n8 s4 refl refl)
        (login_keeps locks (logged_in w) t (locks_good t w good) _ login_stays)

  -- a logout: the number is out, all others stay in, and good tables stay good
  module _ (n : ℕ) (in-now : logged_in w n ≡ true) where
    pub below : n < numbers
    below = logged_below w sized n in-now

    pub logout_out : (m : ℕ) → logged_in (after_logout w n) m ≡ cond (eqb m n) false (logged_in w m)
    logout_out m = logout_logged w sized n below m

    pub logout_stays : (m : ℕ) → (m ≡ n → ⊥) → logged_in w m ≡ true → logged_in (after_logout w n) m ≡ true
    logout_stays m ne i = logout_out m ∙ rw (ne_eqb m n ne) i

    pub logout_tables : (n ≡ 0 → ⊥) → good_tables (cleared_table t n) (after_logout w n) ≡ true
    unfolding good_locks
    logout_tables ne = tables_are _ _
        (logout_good w rg n (omega arith) below)
        (logout_keeps locks (logged_in w) t (locks_good t w good) n (logged_in (after_logout w n)) logout_stays)
