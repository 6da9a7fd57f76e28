-- The logouts before a login: the numbers that they name are out, with their locks, and everybody else is as before.
use Prim.Native.Nat.{ℕ, zero, suc, ◌+◌, ◌≤◌, ◌<◌}
use native.Mathlib.Omega.{arith}
use native.Mathlib.Numerals.{add-one}
use mathlib.Core.Path.{◌≡◌, refl, sym, ap, ◌∙◌}
use mathlib.Core.Bool.{Bool, true, false, not, ◌&&◌, and-true, and-false}
use mathlib.Core.List.{List}
use lib.Dec.{leb, ltb}
use borrow.Author.Tests.{eq-eqb, ne_eqb, ltb-true, lt-ltb, le-ltb, leb-true, leb-false}
use Rattle.rows.proofs.BoolLaws.{by_test, by_eq, both, and_left, and_right, iff}
use Rattle.rows.specs.Words.{same, zeros}
use Rattle.rows.specs.Rows.{row}
use Rattle.terms.specs.declared.LockString.{LockString}
use Rattle.who.specs.Records.{station_of, nobody}
use Rattle.who.specs.Good.{numbers}
use Rattle.who.specs.Logins.{logged_in, has_serial, lowest_number}
use Rattle.who.proofs.WhoLaws.{logout_same, logout_other, below_lowest, lowest_number_is}
use Rattle.locks.specs.Holding.{has}
use Rattle.locks.proofs.HoldingLaws.{has_cleared}
use Rattle.master.specs.Tables.{good_tables}
use Rattle.master.specs.Answers.{answers, no_bytes}
use Rattle.master.specs.Effects.{Effect, telling}
use Rattle.master.specs.Frames.{logout_effect, logouts_below, excepted, starts_again, old_logouts, number_given}
use Rattle.master.specs.Inner.{Left}
use Rattle.master.proofs.TableLaws.{sized, below, logout_out, logout_tables}

-- where nobody is named, nothing is done
none_out : (p : ℕ → Bool) (t w : List ℕ) (k : ℕ) → ((i : ℕ) → i < k → p i ≡ false) → logouts_below k p t w ≡ telling (answers no_bytes) t w
unfolding logouts_below
none_out p t w zero none = refl
none_out p t w (suc k) none = rw (none k (omega arith)) (none_out p t w k (λ i l. none i (omega arith)))

-- the numbers that p names are logged in, and are not 0
module _ (p : ℕ → Bool) (t w : List ℕ) (good : good_tables t w ≡ true) (inside : (m : ℕ) → p m ≡ true → (logged_in w m ≡ true) × (m ≡ 0 → ⊥)) where
  -- m is named, and its turn has come
  gone : ℕ → ℕ → Bool
  gone k m = ltb m k && p m

  gone_now : (k : ℕ) → p k ≡ true → gone (suc k) k ≡ true
  unfolding gone
  gone_now k y = rw (lt-ltb k (suc k) (omega arith), y)

  gone_yet : (k : ℕ) → gone k k ≡ false
  unfolding gone
  gone_yet k = rw (le-ltb k k (omega arith))

  gone_other : (k m : ℕ) → (m ≡ k → ⊥) → gone (suc k) m ≡ gone k m
  unfolding gone
  gone_other k m ne = ap (λ (b : Bool). b && p m) (iff (ltb m (suc k)) (ltb m k)
      (λ y. lt-ltb m k (omega (arith, ltb-true m (suc k) y)))
      (λ y. lt-ltb m (suc k) (omega (arith, ltb-true m k y))))

  gone_not : (k : ℕ) → p k ≡ false → (m : ℕ) → gone (suc k) m ≡ gone k m
  unfolding gone
  gone_not k none m = by_eq m k
      (λ e. rw (e, none) (and-false (ltb k (suc k)) ∙ sym (and-false (ltb k k))))
      (λ ne. gone_other k m ne)

  -- the tables when those below k have had their turn
  record After (k : ℕ) (e : Effect (List ℕ)) : Type 0 where
    tables : good_tables e.locks e.records ≡ true
    logged : (m : ℕ) → logged_in e.records m ≡ (logged_in w m && not (gone k m))
    kept : (m : ℕ) → gone k m ≡ false → row 18 e.records m ≡ row 18 w m
    zeroed : (m : ℕ) → gone k m ≡ true → row 18 e.records m ≡ nobody
    held : (m : ℕ) (x : LockString) → has e.locks m x ≡ (has t m x && not (gone k m))

  nobody_yet : After 0 (telling (answers no_bytes) t w)
  unfolding gone
  nobody_yet = record {
    tables = good;
    logged = λ m. rw (le-ltb m 0 (omega arith)) (sym (and-true (logged_in w m)));
    kept = λ m none. refl;
    zeroed = λ m y. both y (rw (le-ltb m 0 (omega arith)));
    held = λ m x. rw (le-ltb m 0 (omega arith)) (sym (and-true (has t m x)));
  }

  next_out : (k : ℕ) (e : Effect (List ℕ)) → p k ≡ true → After k e → After (suc k) (logout_effect k e.locks e.records)
  unfolding logout_effect
  next_out k e y b =
      let in-now : logged_in e.records k ≡ true = b.logged k ∙ rw (gone_yet k, (inside k y).0) in
      record {
        tables = logout_tables _ _ b.tables k in-now (inside k y).1;
        logged = λ m. logout_out _ _ b.tables k in-now m ∙ by_eq m k
            (λ d. rw (d, eq-eqb k k refl, gone_now k y) (sym (and-false (logged_in w k))))
            (λ ne. rw (ne_eqb m k ne, gone_other k m ne) (b.logged m));
        kept = λ m none. by_eq m k
            (λ d. both (gone_now k y) (rw d at none))
            (λ ne. logout_other _ (sized _ _ b.tables) k (below _ _ b.tables k in-now) m ne ∙ b.kept m (sym (gone_other k m ne) ∙ none));
        zeroed = λ m g. by_eq m k
            (λ d. rw d (logout_same _ (sized _ _ b.tables) k (below _ _ b.tables k in-now)))
            (λ ne. logout_other _ (sized _ _ b.tables) k (below _ _ b.tables k in-now) m ne ∙ b.zeroed m (sym (gone_other k m ne) ∙ g));
        held = λ m x. has_cleared e.locks k m x ∙ by_eq m k
            (λ d. rw (d, eq-eqb k k refl, gone_now k y) (and-false (has e.locks k x) ∙ sym (and-false (has t k x))))
            (λ ne. rw (ne_eqb m k ne, gone_other k m ne) (and-true (has e.locks m x) ∙ b.held m x));
      }

  next_stays : (k : ℕ) (e : Effect (List ℕ)) → p k ≡ false → After k e → After (suc k) e
  next_stays k e none b = record {
    tables = b.tables;
    logged = λ m. rw (gone_not k none m) (b.logged m);
    kept = λ m h. b.kept m (sym (gone_not k none m) ∙ h);
    zeroed = λ m h. b.zeroed m (sym (gone_not k none m) ∙ h);
    held = λ m x. rw (gone_not k none m) (b.held m x);
  }

  after : (k : ℕ) → After k (logouts_below k p t w)
  unfolding logouts_below
  after zero = nobody_yet
  after (suc k) = by_test (p k) (λ y. rw y (next_out k _ y (after k))) (λ none. rw none (next_stays k _ none (after k)))

-- a number that a login with this serial logs out is logged in, and is not 0
again_is : (serial w : List ℕ) (m : ℕ) → starts_again serial w m ≡ true → (logged_in w m ≡ true) × (m ≡ 0 → ⊥)
unfolding starts_again has_serial
again_is serial w m y =
    let b = leb 1 m in
    let c = logged_in w m in
    let d = same (station_of (row 18 w m)).serial serial in
    let here = and_left (b && c) d (and_right (not (excepted serial)) ((b && c) && d) y) in
    (and_right b c here, λ z. omega (arith, leb-true 1 m (and_left b c here)))

-- serial 00 00 00 00 logs nobody out
pub zero_out : (serial t w : List ℕ) → zeros serial ≡ true → old_logouts serial t w ≡ telling (answers no_bytes) t w
unfolding excepted starts_again old_logouts
zero_out serial t w z = none_out (starts_again serial w) t w numbers (λ i l. rw z)

module _ (serial t w : List ℕ) (good : good_tables t w ≡ true) where
  turns : (k : ℕ) → After (starts_again serial w) t w good (again_is serial w) k (logouts_below k (starts_again serial w) t w)
  turns = after (starts_again serial w) t w good (again_is serial w)

  -- after all of them those numbers are out, with their locks, and everybody else is as before
  pub record Cleared (e : Effect (List ℕ)) : Type 0 where
    pub tables : good_tables e.locks e.records ≡ true
    pub logged : (m : ℕ) → logged_in e.records m ≡ (logged_in w m && not (starts_again serial w m))
    pub kept : (m : ℕ) → starts_again serial w m ≡ false → row 18 e.records m ≡ row 18 w m
    pub zeroed : (m : ℕ) → starts_again serial w m ≡ true → row 18 e.records m ≡ nobody
    pub held : (m : ℕ) (x : LockString) → has e.locks m x ≡ (has t m x && not (starts_again serial w m))

  all_gone : (m : ℕ) → gone (starts_again serial w) t w good (again_is serial w) numbers m ≡ starts_again serial w m
  unfolding gone
  all_gone m = by_test (starts_again serial w m)
      (λ y. rw (y, lt-ltb m numbers (below t w good m (again_is serial w m y).0)))
      (λ none. rw none (and-false (ltb m numbers)))

  pub old_cleared : Cleared (old_logouts serial t w)
  unfolding old_logouts
  old_cleared = let b = turns numbers in record {
    tables = b.tables;
    logged = λ m. rw (← all_gone m) (b.logged m);
    kept = λ m none. b.kept m (all_gone m ∙ none);
    zeroed = λ m y. b.zeroed m (all_gone m ∙ y);
    held = λ m x. rw (← all_gone m) (b.held m x);
  }

  -- where one of them was logged out, a number is free then, and that one or a lower one is given
  pub free_after : (m : ℕ) → starts_again serial w m ≡ true → (number_given (old_logouts serial t w).records ≡ 0 → ⊥) × (number_given (old_logouts serial t w).records ≤ m)
  unfolding number_given
  free_after m y =
      let a = again_is serial w m y in
      let left = (old_logouts serial t w).records in
      let out : logged_in left m ≡ false = old_cleared.logged m ∙ rw y (and-false (logged_in w m)) in
      let full = sized _ _ old_cleared.tables in
      let least : lowest_number left ≤ m = by_test (leb (lowest_number left) m)
      (leb-true _ _)
      (λ more. both (below_lowest left full m (omega (arith, a.1)) (leb-false _ _ more)) out) in
      let few : lowest_number left < numbers = omega (arith, least, below t w good m a.0) in
      rw (lt-ltb (lowest_number left) numbers few) (λ z. omega (arith, (lowest_number_is left full few).0), least)

  -- where no number is free after them, nobody was logged out
  pub none_free : number_given (old_logouts serial t w).records ≡ 0 → old_logouts serial t w ≡ telling (answers no_bytes) t w
  unfolding old_logouts
  none_free z = none_out (starts_again serial w) t w numbers (λ i l. by_test (starts_again serial w i) (λ y. absurd ((free_after i y).0 z)) (λ none. none))

  -- the walk over the records: the record that is read in its turn is still as it was
  abbrev up_to : ℕ → Effect (List ℕ)
  up_to k = logouts_below k (starts_again serial w) t w

  pub below_good : (k : ℕ) → good_tables (up_to k).locks (up_to k).records ≡ true
  below_good k = (turns k).tables

  as_before : (k : ℕ) → has_serial (up_to k).records serial k ≡ has_serial w serial k
  unfolding has_serial
  as_before k =
      let yet = gone_yet (starts_again serial w) t w good (again_is serial w) k in
      rw ((turns k).kept k yet, (turns k).logged k, yet, and-true (logged_in w k))

  module _ (some : zeros serial ≡ false) (k : ℕ) where
    pub out_next : has_serial (up_to k).records serial k ≡ true → up_to (k + 1) ≡ logout_effect k (up_to k).locks (up_to k).records
    unfolding logouts_below excepted starts_again
    out_next y = rw (add-one, some, sym (as_before k) ∙ y)

    pub on_next : has_serial (up_to k).records serial k ≡ false → up_to (k + 1) ≡ up_to k
    unfolding logouts_below excepted starts_again
    on_next m = rw (add-one, some, sym (as_before k) ∙ m)

-- the numbers below k have had their turn
pub record Walked (t w serial t' w' : List ℕ) (k : ℕ) : Type 0 where
  pub inside : k ≤ numbers
  pub left : Left (logouts_below k (starts_again serial w) t w) t' w'

module _ {t w serial t' w' : List ℕ} {k : ℕ} (good : good_tables t w ≡ true) (b : Walked t w serial t' w' k) where
  pub walked_good : good_tables t' w' ≡ true
  walked_good = rw (b.left.locks, b.left.records) (below_good serial t w good k)

  module _ (some : zeros serial ≡ false) (l : k < numbers) where
    pub walked_out : has_serial w' serial k ≡ true → {t'' w'' : List ℕ} → Left (logout_effect k t' w') t'' w'' → Walked t w serial t'' w'' (k + 1)
    walked_out y a =
        let next = out_next serial t w good some k (rw b.left.records at y) in
        record { inside = omega arith; left = rw next (rw (← b.left.locks, ← b.left.records) a) }

    pub walked_on : has_serial w' serial k ≡ false → Walked t w serial t' w' (k + 1)
    walked_on m = record { inside = omega arith; left = rw (on_next serial t w good some k (rw b.left.records at m)) b.left }
