-- The promise to the shop is kept.
use Prim.Native.Nat.{ℕ, ◌≤◌}
use native.Mathlib.Omega.{arith}
use mathlib.Core.Path.{◌≡◌, refl, sym, ap, ◌∙◌}
use mathlib.Core.Bool.{Bool, true, false, and-false}
use mathlib.Core.List.{List}
use lib.Dec.{eqb, leb}
use lib.ListN.{length}
use borrow.Author.Tests.{eqb-true, eq-eqb, ne_eqb, le-leb}
use Rattle.rows.proofs.BoolLaws.{by_eq, by_test, both}
use Rattle.rows.proofs.BuildLaws.{same_refl}
use Rattle.rows.specs.Words.{zeros}
use Rattle.rows.specs.Rows.{row}
use Rattle.terms.specs.declared.LockString.{LockString}
use Rattle.frames.specs.declared.Request.{Request}
use Rattle.frames.specs.declared.Command.TheVariants.{Login}
use Rattle.frames.specs.Table.{LOGIN}
use Rattle.frames.specs.Reading.{code, login_in, request_in}
use Rattle.who.specs.declared.Station.{Station}
use Rattle.who.specs.Logins.{logged_in, has_serial, logged_in_as}
use Rattle.locks.specs.Holding.{has}
use Rattle.master.specs.Tables.{good_tables}
use Rattle.master.specs.Refusals.{ANYBODY, refusal}
use Rattle.master.specs.Effects.{Effect}
use Rattle.master.specs.Ends.{number_in, gives, ends}
use Rattle.master.specs.Polls.{station_at}
use Rattle.master.specs.Frames.{logout_effect, excepted, starts_again, old_logouts, number_given, login_effect, effect_of, request_effect, frame_effect}
use Rattle.master.specs.Shop.{Shop}
use Rattle.master.proofs.ServeLaws.{bad_tables}
use Rattle.master.proofs.TableLaws.{below}
use Rattle.master.proofs.LogoutLaws.{zero_out, free_after}
use Rattle.master.proofs.EndLaws.{gives_none, gives_refused, gives_login, ends_out, ends_given}
use Rattle.master.proofs.LoginLaws as logins
use Rattle.master.proofs.Deeds.{Deed, refused, quiet, logged_in_lem, locked, unlocked, cleared, logged_out, deed}

-- a serial that is not zero logs out all who have it
again : (serial w : List ℕ) → zeros serial ≡ false → (m : ℕ) → starts_again serial w m ≡ has_serial w serial m
unfolding excepted starts_again
again serial w not_zero m = rw not_zero

-- the serial of a number by its record alone
serial_in : (w serial : List ℕ) (m : ℕ) → 1 ≤ m → logged_in w m ≡ true → (station_at w m).serial ≡ serial → has_serial w serial m ≡ true
unfolding has_serial station_at
serial_in w serial m first i e = rw (le-leb 1 m first, i, e, same_refl serial)

serial_out : (w serial : List ℕ) (m : ℕ) → logged_in w m ≡ false → has_serial w serial m ≡ false
unfolding has_serial
serial_out w serial m out = rw (out, and-false (leb 1 m))

serial_kept : (w' w serial : List ℕ) (m : ℕ) → logged_in w' m ≡ logged_in w m → row 18 w' m ≡ row 18 w m → has_serial w' serial m ≡ has_serial w serial m
unfolding has_serial
serial_kept w' w serial m same_in same_row = rw (same_in, same_row)

-- what a login that is given the number k leaves
record Started (serial w : List ℕ) (k : ℕ) (e : Effect (List ℕ)) : Type 0 where
  one : (m : ℕ) → has_serial e.records serial m ≡ eqb m k
  new_free : (x : LockString) → has e.locks k x ≡ false
  old_free : (m : ℕ) → has_serial w serial m ≡ true → (x : LockString) → has e.locks m x ≡ false
  old_ended : (m : ℕ) → has_serial w serial m ≡ true → ends e m ≡ true
  old_or_lower : (m : ℕ) → has_serial w serial m ≡ true → k ≤ m

module _ (t w : List ℕ) (good : good_tables t w ≡ true) (name serial : List ℕ) (product : ℕ) (found : Bool) (n8 : length name ≡ 8) (s4 : length serial ≡ 4) (some : number_given (old_logouts serial t w).records ≡ 0 → ⊥) (not_zero : zeros serial ≡ false) where
  abbrev k : ℕ
  k = logins.k t w good name serial product found n8 s4 some

  abbrev done : Effect (List ℕ)
  done = logins.done t w good name serial product found n8 s4 some

  new_serial : has_serial done.records serial k ≡ true
  unfolding logged_in_as
  new_serial = serial_in done.records serial k (logins.free t w good name serial product found n8 s4 some).first
      (logins.new_in t w good name serial product found n8 s4 some)
      (ap (λ (x : Station). x.serial) (logins.new_station t w good name serial product found n8 s4 some))

  old_serial : (m : ℕ) → (m ≡ k → ⊥) → has_serial done.records serial m ≡ false
  old_serial m ne = by_test (has_serial w serial m)
      (λ y. serial_out done.records serial m (logins.old_out t w good name serial product found n8 s4 some m ne (again serial w not_zero m ∙ y)))
      (λ none.
      let spared = again serial w not_zero m ∙ none in
      serial_kept done.records w serial m
      (logins.same_in t w good name serial product found n8 s4 some m ne spared)
      (logins.same_row t w good name serial product found n8 s4 some m ne spared)
      ∙ none)

  starts : Started serial w k done
  starts = record {
    one = λ m. by_eq m k (λ e. rw (e, eq-eqb k k refl) new_serial) (λ ne. rw (ne_eqb m k ne) (old_serial m ne));
    new_free = logins.new_free t w good name serial product found n8 s4 some;
    old_free = λ m y. logins.old_free t w good name serial product found n8 s4 some m (again serial w not_zero m ∙ y);
    old_ended = λ m y. by_eq m k
        (λ e. ends_given done m (logins.given_to t w good name serial product found n8 s4 some m ∙ eq-eqb k m (sym e)))
        (λ ne. ends_out done m (logins.old_out t w good name serial product found n8 s4 some m ne (again serial w not_zero m ∙ y)));
    old_or_lower = λ m y. (free_after serial t w good m (again serial w not_zero m ∙ y)).1;
  }

module _ (n : ℕ) (f s t w : List ℕ) where
  started : (d : Effect (List ℕ)) → Deed n f s t w d → zeros (request_in f).serial ≡ false → (k : ℕ) → gives d.tells k ≡ true → Started (request_in f).serial w k d
  unfolding number_in
  started _ (refused a ne) z k g = both g (gives_refused a ne k)
  started _ (quiet a none) z k g = both g (gives_none a none k)
  started _ (logged_in_lem e good name serial product found n8 s4 sent some) z k g =
      let is : number_given (old_logouts serial t w).records ≡ k = eqb-true _ k (sym (logins.given_to t w good name serial product found n8 s4 some k) ∙ g) in
      rw (← is, ← sent) (starts t w good name serial product found n8 s4 some (rw sent z))
  started _ (locked i x b) z k g = both g (gives_none _ refl k)
  started _ (unlocked i x) z k g = both g (gives_none _ refl k)
  started _ (cleared i) z k g = both g (gives_none _ refl k)
  started _ (logged_out i ne) z k g = both g (unfold logout_effect in gives_none _ refl k)

  -- a login that is not refused, with a serial that a number has
  tables_there : refusal n f s t w ≡ 0 → good_tables t w ≡ true
  tables_there z = by_test (good_tables t w) (λ y. y) (λ bad. absurd (omega (arith, bad_tables n f s t w bad)))

  login_read : code f ≡ LOGIN → request_in f ≡ login_in f
  unfolding request_in
  login_read e = rw e

  login_gives : (number_given (old_logouts (login_in f).serial t w).records ≡ 0 → ⊥) → gives (request_effect (login_in f) n s t w).tells (number_given (old_logouts (login_in f).serial t w).records) ≡ true
  unfolding request_effect effect_of login_in login_effect
  login_gives some =
      let k = number_given (old_logouts (login_in f).serial t w).records in
      rw (ne_eqb k 0 some) (gives_login k some _ _ k ∙ eq-eqb k k refl)

  login_tells : code f ≡ LOGIN → refusal n f s t w ≡ 0 → (number_given (old_logouts (request_in f).serial t w).records ≡ 0 → ⊥)
      → gives (frame_effect n f s t w).tells (number_given (old_logouts (request_in f).serial t w).records) ≡ true
  unfolding frame_effect
  login_tells e z some = rw (z, login_read e) (login_gives (rw (login_read e) at some))

  always : code f ≡ LOGIN → refusal n f s t w ≡ 0 → zeros (request_in f).serial ≡ false → (m : ℕ) → has_serial w (request_in f).serial m ≡ true → (k : ℕ) × (gives (frame_effect n f s t w).tells k ≡ true)
  always e z not_zero m y = (_, login_tells e z (free_after (request_in f).serial t w (tables_there z) m (again (request_in f).serial w not_zero m ∙ y)).0)

-- nobody stands at 253, and a login that is given no number changes nothing
module _ (f s t w : List ℕ) where
  nobody_there : good_tables t w ≡ true → logged_in w ANYBODY ≡ true → ⊥
  nobody_there good i = omega (arith, below t w good ANYBODY i)

  untouched : (d : Effect (List ℕ)) → good_tables t w ≡ true → Deed ANYBODY f s t w d → ((k : ℕ) → gives d.tells k ≡ false) → (d.locks ≡ t) × (d.records ≡ w)
  untouched _ good (refused a ne) g = (refl, refl)
  untouched _ good (quiet a none) g = (refl, refl)
  untouched _ good (logged_in_lem e good' name serial product found n8 s4 sent some) g =
      let k = number_given (old_logouts serial t w).records in
      both (gives_login k some found _ k ∙ eq-eqb k k refl) (g k)
  untouched _ good (locked i x b) g = absurd (nobody_there good i)
  untouched _ good (unlocked i x) g = absurd (nobody_there good i)
  untouched _ good (cleared i) g = absurd (nobody_there good i)
  untouched _ good (logged_out i ne) g = absurd (nobody_there good i)

  bad_untouched : good_tables t w ≡ false → ((frame_effect ANYBODY f s t w).locks ≡ t) × ((frame_effect ANYBODY f s t w).records ≡ w)
  unfolding frame_effect
  bad_untouched bad = rw (bad_tables ANYBODY f s t w bad) (refl, refl)

  none_given : ((k : ℕ) → gives (frame_effect ANYBODY f s t w).tells k ≡ false) → ((frame_effect ANYBODY f s t w).locks ≡ t) × ((frame_effect ANYBODY f s t w).records ≡ w)
  none_given g = by_test (good_tables t w)
      (λ good. untouched _ good (deed ANYBODY f s t w) g)
      bad_untouched

zero_login : (product : ℕ) (q : Request) (n : ℕ) (s t w : List ℕ) → zeros q.serial ≡ true → effect_of (Login product) q n s t w ≡ login_effect q product s t w
unfolding effect_of
zero_login product q n s t w z = rw (zero_out q.serial t w z)

pub shop : Shop
shop = record {
  one = λ a. (started _ _ _ _ _ _ (deed _ _ _ _ _) a.not_zero _ a.number).one;
  new_free = λ a. (started _ _ _ _ _ _ (deed _ _ _ _ _) a.not_zero _ a.number).new_free;
  old_free = λ a. (started _ _ _ _ _ _ (deed _ _ _ _ _) a.not_zero _ a.number).old_free;
  old_ended = λ a. (started _ _ _ _ _ _ (deed _ _ _ _ _) a.not_zero _ a.number).old_ended;
  old_or_lower = λ a. (started _ _ _ _ _ _ (deed _ _ _ _ _) a.not_zero _ a.number).old_or_lower;
  always = λ f s t w. always ANYBODY f s t w;
  none_given = none_given;
  zero = zero_login;
}
