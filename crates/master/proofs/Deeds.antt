-- What a frame can do to good tables, as one view: a match on it fixes the answer and both tables together.
use Prim.Native.Nat.{ℕ}
use native.Mathlib.Omega.{arith}
use mathlib.Core.Path.{◌≡◌, refl, sym, ap, ◌∙◌}
use mathlib.Core.Bool.{Bool, true, false, cond, not, ◌||◌}
use mathlib.Core.List.{List}
use lib.Dec.{eqb}
use lib.ListN.{length, get_or}
use borrow.Author.Tests.{eqb-true, eq-eqb, ne_eqb, not-false}
use Rattle.rows.proofs.BoolLaws.{by_test, by_eq, both}
use Rattle.rows.proofs.RowLaws.{length_part}
use Rattle.terms.specs.declared.LockString.{LockString}
use Rattle.frames.specs.declared.Request.{Request}
use Rattle.frames.specs.Table.{LOGIN, LOCK, UNLOCK, CLEAR, LOGOUT, frame_table, length_in, frame_length}
use Rattle.frames.specs.Requests.{plain}
use Rattle.terms.specs.Strings.{string_at}
use Rattle.frames.specs.Reading.{code, named_in, login_in, string_request, request_in}
use Rattle.frames.proofs.TableLaws.{Code, acknowledge, read, write, login, assign, lock, unlock, clear, logout, code_is}
use Rattle.frames.proofs.ReadLaws.{well_is, well_long}
use Rattle.site.specs.Places.{Placed}
use Rattle.site.specs.Rules.{good_site}
use Rattle.who.specs.Logins.{logged_in}
use Rattle.who.proofs.WhoLaws.{good_is}
use Rattle.locks.specs.Table.{lock_status, lock_table, unlock_status, unlock_table, cleared_table}
use Rattle.master.specs.Tables.{good_tables}
use Rattle.master.specs.Answers.{Told, refuses, answers, refusal_number, Answered, no_bytes, status_byte}
use Rattle.master.specs.Refusals.{ANYBODY, misplaced, place_refusal, frame_tests, frame_refusal, refusal}
use Rattle.master.specs.Frames.{place_told, row_answer, assignable, assign_answer, logout_effect, old_logouts, number_given, login_effect, effect_of, request_effect, frame_effect}
use Rattle.master.proofs.RefusalLaws.{Passed, passed, tests_stop, seat_in}
use Rattle.master.specs.Effects.{Effect, telling}
use Rattle.master.specs.Ends.{number_in}
use Rattle.master.proofs.TableLaws.{records_good}
use Rattle.master.proofs.LogoutLaws.{none_free}
use Rattle.master.proofs.LoginLaws.{given}
use Rattle.master.proofs.Outcomes.{told_refuses}

module _ (n : ℕ) (f s t w : List ℕ) where
  -- refused: nothing changes. Quiet: an answer and no change, and nobody is logged in. The others change a table
  pub data Deed : Effect (List ℕ) → Type 0 where
    refused : (a : Told) → (refusal_number a ≡ 0 → ⊥) → Deed (telling a t w)
    quiet : (a : Answered) → number_in a ≡ 0 → Deed (telling (answers a) t w)
    logged_in_lem : n ≡ ANYBODY → good_tables t w ≡ true → (name serial : List ℕ) (product : ℕ) (found : Bool) → length name ≡ 8 → length serial ≡ 4 → serial ≡ (request_in f).serial
        → (number_given (old_logouts serial t w).records ≡ 0 → ⊥) → Deed (given name serial product found (old_logouts serial t w))
    locked : logged_in w n ≡ true → (x : LockString) → length x.bytes ≡ 13 → Deed (telling (answers (status_byte (lock_status t n x))) (lock_table t n x) w)
    unlocked : logged_in w n ≡ true → (x : LockString) → Deed (telling (answers (status_byte (unlock_status t n x))) (unlock_table t n x) w)
    cleared : logged_in w n ≡ true → Deed (telling (answers (status_byte 0x00)) (cleared_table t n) w)
    logged_out : logged_in w n ≡ true → (n ≡ 0 → ⊥) → Deed (logout_effect n t w)

  -- a frame that is not refused for its tables, its site file or by one of 1 to 7
  record Heard : Type 0 where
    tables : good_tables t w ≡ true
    tests : Passed n f w

  heard : refusal n f s t w ≡ 0 → Heard
  unfolding refusal frame_refusal
  heard z =
      let past_both = past (good_tables t w) (good_site s) (frame_tests n f w (place_refusal f s)) z in
      by_eq (frame_tests n f w 0) 0
      (λ e. record { tables = past_both.0; tests = passed n f w e })
      (λ ne. absurd (ne (sym (tests_stop n f w (place_refusal f s) ne) ∙ past_both.1)))
    where
      past : (a b : Bool) (x : ℕ) → ◌≡◌ {A = ℕ} (cond (not a) 11 (cond (not b) 10 x)) 0 → (a ≡ true) × (x ≡ 0)
      past true true x e = (refl, e)
      past true false x e = absurd (omega arith)
      past false b x e = absurd (omega arith)

  place_done : (p : Placed) → Deed (telling (place_told p) t w)
  unfolding place_told refusal_number number_in
  place_done p = by_eq p.refusal 0
      (λ e. rw e (quiet _ refl))
      (λ ne. rw (ne_eqb p.refusal 0 ne) (refused (refuses p.refusal) ne))

  assign_done : (q : Request) → Deed (telling (assign_answer q s) t w)
  unfolding assign_answer row_answer number_in
  assign_done q = by_test (assignable q s) (λ y. rw y (quiet _ refl)) (λ m. rw m (quiet _ refl))

  module _ (h : Heard) where
    sized : length w ≡ 1152
    sized = (good_is w (records_good t w h.tables)).sized

    long : (k : ℕ) → code f ≡ k → length f ≡ frame_length k
    long k e = well_long f k h.tests.reads e

    inside : (k : ℕ) → code f ≡ k → eqb k LOGIN ≡ false → logged_in w n ≡ true
    inside k e ne = seat_in n f w sized h.tests (rw e ne)

    -- a login stands at 253, a logout not at 0
    at_anybody : code f ≡ LOGIN → n ≡ ANYBODY
    unfolding misplaced
    at_anybody e = eqb-true n ANYBODY (not-false _ (rw e at h.tests.seat))

    not_local : code f ≡ LOGOUT → n ≡ 0 → ⊥
    unfolding misplaced
    not_local e z = both (eq-eqb n 0 z) (second (eqb n ANYBODY) (eqb n 0) (rw e at h.tests.seat))
      where
        second : (a b : Bool) → (a || b) ≡ false → b ≡ false
        second true b q = both refl q
        second false b q = q

    login_read : code f ≡ LOGIN → login_in f ≡ request_in f
    unfolding request_in
    login_read e = rw e

    login_done : code f ≡ LOGIN → Deed (login_effect (login_in f) (get_or f 19 0) s (old_logouts (login_in f).serial t w).locks (old_logouts (login_in f).serial t w).records)
    unfolding login_effect login_in number_in frame_length length_in frame_table
    login_done e =
        let serial = (login_in f).serial in
        let k = number_given (old_logouts serial t w).records in
        by_eq k 0
        (λ z. let same = none_free serial t w h.tables z in rw same (rw (rw same at z) (quiet _ refl)))
        (λ ne. rw (ne_eqb k 0 ne) (logged_in_lem (at_anybody e) h.tables _ _ _ _ (length_part f 1 8 (omega (arith, long LOGIN e))) (length_part f 15 4 (omega (arith, long LOGIN e))) (ap (λ (q : Request). q.serial) (login_read e)) ne))

    done : Code (code f) → Deed (request_effect (request_in f) n s t w)
    unfolding request_effect request_in string_request string_at named_in login_in plain effect_of logout_effect number_in frame_length length_in frame_table
    done (acknowledge e) = rw e (quiet no_bytes refl)
    done (read e) = rw e (place_done _)
    done (write e) = rw e (place_done _)
    done (login e) = rw e (login_done e)
    done (assign e) = rw e (assign_done _)
    done (lock e) = rw e (locked (inside LOCK e refl) _ (length_part f 2 13 (omega (arith, long LOCK e))))
    done (unlock e) = rw e (unlocked (inside UNLOCK e refl) _)
    done (clear e) = rw e (cleared (inside CLEAR e refl))
    done (logout e) = rw e (logged_out (inside LOGOUT e refl) (not_local e))

  -- every frame over good tables is one of these
  pub deed : Deed (frame_effect n f s t w)
  unfolding frame_effect
  deed = by_eq (refusal n f s t w) 0
      (λ z. rw z (done (heard z) (code_is (code f) (well_is f (heard z).tests.reads).known)))
      (λ ne. rw (ne_eqb (refusal n f s t w) 0 ne) (refused _ (told_refuses s (refusal n f s t w) ne)))
