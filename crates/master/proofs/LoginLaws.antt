-- The tables after a login that is given a number: after the logouts, the lowest free number is logged in.
use Prim.Native.Nat.{ℕ}
use mathlib.Core.Path.{◌≡◌, refl, sym, ◌∙◌}
use mathlib.Core.Bool.{Bool, true, false, not, ◌&&◌, and-true, and-false}
use mathlib.Core.List.{List}
use lib.Dec.{eqb}
use lib.ListN.{length}
use borrow.Author.Tests.{eq-eqb, ne_eqb}
use Rattle.rows.proofs.BoolLaws.{by_test, both}
use Rattle.rows.specs.Rows.{row}
use Rattle.rows.specs.Numbers.{low_first}
use Rattle.terms.specs.declared.LockString.{LockString}
use Rattle.who.specs.Records.{nobody}
use Rattle.who.specs.Logins.{logged_in, logged_in_as, after_login}
use Rattle.who.proofs.WhoLaws.{login_other}
use Rattle.locks.specs.Holding.{has}
use Rattle.master.specs.Tables.{good_tables}
use Rattle.master.specs.Answers.{answers, login_as}
use Rattle.master.specs.Effects.{Effect, telling}
use Rattle.master.specs.Ends.{gives}
use Rattle.master.specs.Polls.{station_at}
use Rattle.master.specs.Frames.{starts_again, old_logouts, number_given}
use Rattle.master.proofs.TableLaws.{sized, Free, given_free, out_holds, login_in_lem, login_station, login_tables}
use Rattle.master.proofs.LogoutLaws.{Cleared, old_cleared}
use Rattle.master.proofs.EndLaws.{gives_login}

-- on the tables that e left
abbrev pub given : List ℕ → List ℕ → ℕ → Bool → Effect (List ℕ) → Effect (List ℕ)
given name serial product found e =
    let k = number_given e.records in
    telling (answers (login_as k found (low_first serial))) e.locks (after_login e.records k (logged_in_as name serial product found))

module _ (t w : List ℕ) (good : good_tables t w ≡ true) (name serial : List ℕ) (product : ℕ) (found : Bool) (n8 : length name ≡ 8) (s4 : length serial ≡ 4) (some : number_given (old_logouts serial t w).records ≡ 0 → ⊥) where
  abbrev pub k : ℕ
  k = number_given (old_logouts serial t w).records

  abbrev pub done : Effect (List ℕ)
  done = given name serial product found (old_logouts serial t w)

  pub out : Cleared serial t w good (old_logouts serial t w)
  out = old_cleared serial t w good

  pub free : Free _ _ out.tables k
  free = given_free _ _ out.tables some

  pub done_tables : good_tables done.locks done.records ≡ true
  done_tables = login_tables _ _ out.tables k free name serial product found n8 s4

  -- the number given: in with what was sent, and no lock is its
  pub new_in : logged_in done.records k ≡ true
  new_in = login_in_lem _ _ out.tables k free name serial product found n8 s4 k ∙ rw (eq-eqb k k refl)

  pub new_station : station_at done.records k ≡ logged_in_as name serial product found
  new_station = login_station _ _ out.tables k free name serial product found n8 s4

  pub new_free : (x : LockString) → has done.locks k x ≡ false
  new_free = out_holds _ _ out.tables k free.out

  -- it was out, or it is one of those that were logged out
  pub new_before : logged_in w k ≡ true → starts_again serial w k ≡ true
  new_before i = by_test (starts_again serial w k) (λ y. y) (λ none. both (out.logged k ∙ rw (i, none)) free.out)

  pub given_to : (m : ℕ) → gives done.tells m ≡ eqb k m
  given_to m = gives_login k some found (low_first serial) m

  -- any other: logged out, with all that it had, or as before
  module _ (m : ℕ) (ne : m ≡ k → ⊥) where
    pub not_given : gives done.tells m ≡ false
    not_given = given_to m ∙ ne_eqb k m (λ e. ne (sym e))

    in_after : logged_in done.records m ≡ (logged_in w m && not (starts_again serial w m))
    in_after = login_in_lem _ _ out.tables k free name serial product found n8 s4 m ∙ rw (ne_eqb m k ne) (out.logged m)

    row_after : row 18 done.records m ≡ row 18 (old_logouts serial t w).records m
    unfolding logged_in_as
    row_after = login_other _ (sized _ _ out.tables) k free.below (logged_in_as name serial product found) n8 s4 m ne

    module _ (y : starts_again serial w m ≡ true) where
      pub old_out : logged_in done.records m ≡ false
      old_out = in_after ∙ rw y (and-false (logged_in w m))

      pub old_zero : row 18 done.records m ≡ nobody
      old_zero = row_after ∙ out.zeroed m y

    module _ (none : starts_again serial w m ≡ false) where
      pub same_in : logged_in done.records m ≡ logged_in w m
      same_in = in_after ∙ rw none (and-true (logged_in w m))

      pub same_row : row 18 done.records m ≡ row 18 w m
      same_row = row_after ∙ out.kept m none

      pub same_held : (x : LockString) → has done.locks m x ≡ has t m x
      same_held x = out.held m x ∙ rw none (and-true (has t m x))

  pub old_free : (m : ℕ) → starts_again serial w m ≡ true → (x : LockString) → has done.locks m x ≡ false
  old_free m y x = out.held m x ∙ rw y (and-false (has t m x))
