-- Good tables stay good, and what a frame does to everybody: to each number one of three things.
use Prim.Native.Nat.{ℕ}
use mathlib.Core.Path.{◌≡◌, refl, ap, ◌∙◌}
use mathlib.Core.Bool.{true, false, and-true, or-false, and-false}
use mathlib.Core.List.{List}
use lib.ListN.{length}
use borrow.Author.Tests.{eq-eqb, ne_eqb}
use Rattle.rows.proofs.BoolLaws.{by_eq, by_test, both}
use Rattle.rows.specs.Rows.{row}
use Rattle.terms.specs.declared.LockString.{LockString}
use Rattle.frames.specs.Reading.{request_in}
use Rattle.who.specs.declared.Station.{Station}
use Rattle.who.specs.Records.{nobody}
use Rattle.who.specs.Logins.{logged_in, logged_in_as}
use Rattle.who.proofs.WhoLaws.{logout_same, logout_other}
use Rattle.locks.specs.Good.{locks, good_locks}
use Rattle.locks.specs.Holding.{has}
use Rattle.locks.proofs.HoldingLaws.{LockCase, illegal, own, other, full, granted, lock_case, has_granted, has_unlocked, has_cleared}
use Rattle.locks.proofs.Keeps.{lock_keeps, unlock_keeps, clear_keeps}
use Rattle.locks.specs.Table.{unlocks, unlock_table, cleared_table}
use Rattle.master.specs.Tables.{good_tables}
use Rattle.master.specs.Refusals.{ANYBODY}
use Rattle.master.specs.Effects.{Effect}
use Rattle.master.specs.Ends.{number_in, gives, ends}
use Rattle.master.specs.Polls.{station_at}
use Rattle.master.specs.Frames.{logout_effect, starts_again, frame_effect}
use Rattle.master.proofs.TableLaws.{records_good, locks_good, tables_are, table, sized, used_number, below, logout_out, logout_tables}
use Rattle.master.proofs.EndLaws.{ends_not, not_ended, gives_none, gives_refused}
use Rattle.master.proofs.LoginLaws as logins
use Rattle.master.proofs.Deeds.{Deed, refused, quiet, logged_in_lem, locked, unlocked, cleared, logged_out, deed}

module _ (n : ℕ) (f s t w : List ℕ) (good : good_tables t w ≡ true) where
  -- good tables stay good
  deed_keeps : (d : Effect (List ℕ)) → Deed n f s t w d → good_tables d.locks d.records ≡ true
  unfolding good_locks logout_effect
  deed_keeps _ (refused k ne) = good
  deed_keeps _ (quiet a z) = good
  deed_keeps _ (logged_in_lem e g name serial product found n8 s4 sent some) = logins.done_tables t w good name serial product found n8 s4 some
  deed_keeps _ (locked i x b) = tables_are _ _ (records_good t w good) (lock_keeps locks (logged_in w) t (locks_good t w good) n x i (used_number t w good n i) b)
  deed_keeps _ (unlocked i x) = tables_are _ _ (records_good t w good) (unlock_keeps locks (logged_in w) t (locks_good t w good) n x)
  deed_keeps _ (cleared i) = tables_are _ _ (records_good t w good) (clear_keeps locks (logged_in w) t (locks_good t w good) n)
  deed_keeps _ (logged_out i ne) = logout_tables t w good n i ne

  pub frame_keeps : good_tables (frame_effect n f s t w).locks (frame_effect n f s t w).records ≡ true
  frame_keeps = deed_keeps _ (deed n f s t w)

  -- what others hold
  module _ (m : ℕ) (nm : m ≡ n → ⊥) (x : LockString) where
    lock_others : (y : LockString) → logged_in w n ≡ true → length y.bytes ≡ 13 → (a : ℕ) (u : List ℕ) → LockCase t n y a u → has u m x ≡ has t m x
    lock_others y i b a u (illegal l) = refl
    lock_others y i b a u (own l h) = refl
    lock_others y i b a u (other l h e) = refl
    lock_others y i b a u (full l h e) = refl
    lock_others y i b a u (granted l h e) = has_granted t n y l h e b (used_number t w good n i) m x ∙ rw (ne_eqb m n nm) (or-false (has t m x))

    unlock_others : (y : LockString) → has (unlock_table t n y) m x ≡ has t m x
    unlock_others y = has_unlocked (table t w good) n y m x ∙ rw (ne_eqb m n nm) (rw (and-false (unlocks t n y)) (and-true (has t m x)))

    pub cleared_others : has (cleared_table t n) m x ≡ has t m x
    cleared_others = has_cleared t n m x ∙ rw (ne_eqb m n nm) (and-true (has t m x))

  -- its own logout, or a login with its serial
  pub data Goes (m : ℕ) : Type 0 where
    by_logout : m ≡ n → Goes m
    by_login : n ≡ ANYBODY → starts_again (request_in f).serial w m ≡ true → Goes m

  -- a login is given m, which was out or goes; m is in with the serial that was sent, without misses and slow turns, and holds nothing
  pub record Begins (m : ℕ) (d : Effect (List ℕ)) : Type 0 where
    pub at_anybody : n ≡ ANYBODY
    pub before : logged_in w m ≡ true → starts_again (request_in f).serial w m ≡ true
    pub is_in_lem : logged_in d.records m ≡ true
    pub serials : (station_at d.records m).serial ≡ (request_in f).serial
    pub no_misses : (station_at d.records m).misses ≡ 0
    pub no_slow : (station_at d.records m).slow ≡ 0
    pub holds_none : (x : LockString) → has d.locks m x ≡ false

  -- what a frame does to the number m. Kept: its record is the same, so its misses and slow turns too, and, but for the sender, its
  -- locks. Went: its record is cleared, and it holds nothing. Begun: a login is given it
  pub data Fate (m : ℕ) (d : Effect (List ℕ)) : Type 0 where
    kept : gives d.tells m ≡ false → logged_in d.records m ≡ logged_in w m → row 18 d.records m ≡ row 18 w m
        → ((m ≡ n → ⊥) → (x : LockString) → has d.locks m x ≡ has t m x) → Fate m d
    went : Goes m → gives d.tells m ≡ false → logged_in d.records m ≡ false → row 18 d.records m ≡ nobody
        → ((x : LockString) → has d.locks m x ≡ false) → Fate m d
    begun : gives d.tells m ≡ true → Begins m d → Fate m d

  deed_fate : (d : Effect (List ℕ)) → Deed n f s t w d → (m : ℕ) → Fate m d
  unfolding number_in logged_in_as logout_effect
  deed_fate _ (refused a ne) m = kept (gives_refused a ne m) refl refl (λ nm x. refl)
  deed_fate _ (quiet a z) m = kept (gives_none a z m) refl refl (λ nm x. refl)
  deed_fate _ (logged_in_lem e g name serial product found n8 s4 sent some) m =
      let k = logins.k t w good name serial product found n8 s4 some in
      let new = logins.new_station t w good name serial product found n8 s4 some in
      by_eq m k
      (λ is. rw is (begun (logins.given_to t w good name serial product found n8 s4 some k ∙ eq-eqb k k refl) (record {
        at_anybody = e;
        before = λ i. rw (← sent) (logins.new_before t w good name serial product found n8 s4 some i);
        is_in_lem = logins.new_in t w good name serial product found n8 s4 some;
        serials = ap (λ (x : Station). x.serial) new ∙ sent;
        no_misses = ap (λ (x : Station). x.misses) new;
        no_slow = ap (λ (x : Station). x.slow) new;
        holds_none = logins.new_free t w good name serial product found n8 s4 some;
      })))
      (λ ne. by_test (starts_again serial w m)
      (λ y. went (by_login e (rw (← sent) y))
      (logins.not_given t w good name serial product found n8 s4 some m ne)
      (logins.old_out t w good name serial product found n8 s4 some m ne y)
      (logins.old_zero t w good name serial product found n8 s4 some m ne y)
      (logins.old_free t w good name serial product found n8 s4 some m y))
      (λ none. kept
      (logins.not_given t w good name serial product found n8 s4 some m ne)
      (logins.same_in t w good name serial product found n8 s4 some m ne none)
      (logins.same_row t w good name serial product found n8 s4 some m ne none)
      (λ nm. logins.same_held t w good name serial product found n8 s4 some m ne none)))
  deed_fate _ (locked i y b) m = kept (gives_none _ refl m) refl refl (λ nm x. lock_others m nm x y i b _ _ (lock_case (table t w good) n y))
  deed_fate _ (unlocked i y) m = kept (gives_none _ refl m) refl refl (λ nm x. unlock_others m nm x y)
  deed_fate _ (cleared i) m = kept (gives_none _ refl m) refl refl (λ nm x. cleared_others m nm x)
  deed_fate _ (logged_out i ne) m = by_eq m n
      (λ e. went (by_logout e) (gives_none _ refl m)
      (logout_out t w good n i m ∙ rw (eq-eqb m n e))
      (rw e (logout_same w (sized t w good) n (below t w good n i)))
      (λ x. has_cleared t n m x ∙ rw (eq-eqb m n e) (and-false (has t m x))))
      (λ nm. kept (gives_none _ refl m)
      (logout_out t w good n i m ∙ rw (ne_eqb m n nm))
      (logout_other w (sized t w good) n (below t w good n i) m nm)
      (λ _ x. cleared_others m nm x))

  pub frame_fate : (m : ℕ) → Fate m (frame_effect n f s t w)
  frame_fate = deed_fate _ (deed n f s t w)

  -- who is not ended is kept
  pub record Lives (m : ℕ) (d : Effect (List ℕ)) : Type 0 where
    pub same_in : logged_in d.records m ≡ logged_in w m
    pub same_record : row 18 d.records m ≡ row 18 w m
    pub same_locks : (m ≡ n → ⊥) → (x : LockString) → has d.locks m x ≡ has t m x

  lives : (m : ℕ) (d : Effect (List ℕ)) → ends d m ≡ false → Fate m d → Lives m d
  lives m d o (kept g i r l) = record { same_in = i; same_record = r; same_locks = l }
  lives m d o (went c g out r l) = both (ends_not d m o).0 out
  lives m d o (begun g b) = both g (ends_not d m o).1

  pub frame_lives : (m : ℕ) → ends (frame_effect n f s t w) m ≡ false → Lives m (frame_effect n f s t w)
  frame_lives m o = lives m _ o (frame_fate m)

  -- who was in and is ended goes
  ended : (m : ℕ) (d : Effect (List ℕ)) → logged_in w m ≡ true → ends d m ≡ true → Fate m d → Goes m
  ended m d i o (kept g j r l) = both o (not_ended d m (j ∙ i) g)
  ended m d i o (went c g out r l) = c
  ended m d i o (begun g b) = by_login b.at_anybody (b.before i)

  pub frame_ended : (m : ℕ) → logged_in w m ≡ true → ends (frame_effect n f s t w) m ≡ true → Goes m
  frame_ended m i o = ended m _ i o (frame_fate m)

  -- whom a login is given to begins
  begins : (m : ℕ) (d : Effect (List ℕ)) → gives d.tells m ≡ true → Fate m d → Begins m d
  begins m d y (kept g i r l) = both y g
  begins m d y (went c g out r l) = both y g
  begins m d y (begun g b) = b

  pub frame_begins : (m : ℕ) → gives (frame_effect n f s t w).tells m ≡ true → Begins m (frame_effect n f s t w)
  frame_begins m y = begins m _ y (frame_fate m)
