-- What a station's own frames do at the master: refused and nothing changes, or exactly what the command says.
use Prim.Native.Nat.{ℕ, ◌≤◌}
use native.Mathlib.Omega.{arith}
use mathlib.Core.Path.{◌≡◌, refl, ◌∙◌}
use mathlib.Core.Bool.{true, false, ◌||◌}
use mathlib.Core.List.{List, []}
use lib.Dec.{eqb}
use lib.ListN.{length}
use lib.Seq.{take-append-le, take-length}
use borrow.Author.Tests.{eq-eqb, ne_eqb, le-ltb}
use Rattle.rows.proofs.BoolLaws.{by_test, by_eq, both}
use Rattle.frames.specs.Table.{ACKNOWLEDGE, READ, WRITE, ASSIGN, LOCK, UNLOCK, CLEAR, LOGIN, LOGOUT, frame_length, carries_address}
use Rattle.frames.specs.Requests.{plain}
use Rattle.terms.specs.Strings.{string_at}
use Rattle.frames.specs.Reading.{code, named_in, string_request, request_in, refusal_of}
use Rattle.site.specs.Rules.{good_site}
use Rattle.who.specs.Logins.{logged_in, after_logout}
use Rattle.who.proofs.WhoLaws.{good_is, logged_below}
use Rattle.locks.specs.Table.{lock_status, lock_table, unlock_status, unlock_table, cleared_table}
use Rattle.master.specs.Tables.{good_tables}
use Rattle.master.specs.Answers.{Told, answers, refusal_number, no_bytes, status_byte}
use Rattle.master.specs.Refusals.{ANYBODY, unknown, misplaced, src_differs, place_refusal, frame_tests, frame_refusal, refusal}
use Rattle.master.proofs.TableLaws.{records_good}
use Rattle.master.proofs.Outcomes.{told_refuses}
use Rattle.station.specs.State.{wait_of, asked_in}
use Rattle.station.specs.Good.{good_state}
use Rattle.station.specs.Asks.{frame_awaited, send_refusal, sent_of, buffer_after}
use Rattle.exchange.specs.Following.{side_frame, sent}
use Rattle.master.specs.Effects.{Effect, telling}
use Rattle.master.specs.Frames.{logout_effect, effect_of, request_effect, frame_effect}

-- what `send` leaves is the frame awaited, or nothing where it is refused
module _ (st b : List ℕ) where
  sent_all : send_refusal st (length b) ≡ 0 → sent st b ≡ frame_awaited (wait_of st)
  unfolding sent sent_of buffer_after
  sent_all z =
      let f = frame_awaited (wait_of st) in
      rw z (take-append-le (length f) f _ (omega arith) ∙ take-length f)

  pub data Sending : List ℕ → Type 0 where
    whole : Sending (frame_awaited (wait_of st))
    none : Sending []

  pub sending : Sending (sent st b)
  sending = by_eq (send_refusal st (length b)) 0
      (λ z. rw (sent_all z) whole)
      (λ ne. rw (nothing_sent ne) none)
    where
      nothing_sent : (send_refusal st (length b) ≡ 0 → ⊥) → sent st b ≡ []
      nothing_sent ne = unfold sent sent_of in rw (ne_eqb (send_refusal st (length b)) 0 ne)

  -- a good state and a buffer that is long enough
  pub sent_whole : good_state st ≡ true → length (frame_awaited (wait_of st)) ≤ length b → sent st b ≡ frame_awaited (wait_of st)
  unfolding send_refusal
  sent_whole good fits = sent_all (rw (good, le-ltb (length b) (length (frame_awaited (wait_of st))) fits))

-- which of the four side frames a code is
data Side (c : ℕ) : Type 0 where
  acknowledge : c ≡ ACKNOWLEDGE → Side c
  read : c ≡ READ → Side c
  write : c ≡ WRITE → Side c
  assign : c ≡ ASSIGN → Side c

side_code : (c : ℕ) → ((eqb c ACKNOWLEDGE || eqb c READ) || (eqb c WRITE || eqb c ASSIGN)) ≡ true → Side c
side_code c y =
    by_eq c ACKNOWLEDGE acknowledge λ a.
    by_eq c READ read λ r.
    by_eq c WRITE write λ w.
    by_eq c ASSIGN assign λ s.
    both y (rw (ne_eqb c ACKNOWLEDGE a, ne_eqb c READ r, ne_eqb c WRITE w, ne_eqb c ASSIGN s))

-- at the master: refused, or answered with a status and the lock table t₁
pub data Serving (t w : List ℕ) (status : ℕ) (t₁ : List ℕ) : Effect (List ℕ) → Type 0 where
  refused : (a : Told) → (refusal_number a ≡ 0 → ⊥) → Serving t w status t₁ (telling a t w)
  served : Serving t w status t₁ (telling (answers (status_byte status)) t₁ w)

module _ (n : ℕ) (f s t w : List ℕ) where
  -- a command that is answered with a status and changes no record
  abbrev pub Commands : ℕ → List ℕ → Type 0
  Commands status t₁ = request_effect (request_in f) n s t w ≡ telling (answers (status_byte status)) t₁ w

  pub serving : {status : ℕ} {t₁ : List ℕ} → Commands status t₁ → Serving t w status t₁ (frame_effect n f s t w)
  unfolding frame_effect
  serving c = by_eq (refusal n f s t w) 0
      (λ e. rw (e, c) served)
      (λ ne. rw (ne_eqb (refusal n f s t w) 0 ne) (refused _ (told_refuses s (refusal n f s t w) ne)))

  pub told_status : {status : ℕ} {t₁ : List ℕ} → Commands status t₁ → refusal n f s t w ≡ 0 → (frame_effect n f s t w).tells ≡ answers (status_byte status)
  unfolding frame_effect
  told_status c z = rw (z, c)

  pub own_lock : code f ≡ LOCK → Commands (lock_status t n (asked_in f)) (lock_table t n (asked_in f))
  unfolding request_in string_request asked_in string_at request_effect effect_of
  own_lock e = rw e

  pub own_unlock : code f ≡ UNLOCK → Commands (unlock_status t n (asked_in f)) (unlock_table t n (asked_in f))
  unfolding request_in string_request asked_in string_at request_effect effect_of
  own_unlock e = rw e

  pub own_clear : code f ≡ CLEAR → Commands 0x00 (cleared_table t n)
  unfolding request_in plain request_effect effect_of
  own_clear e = rw e

  -- a logout is refused, or frees the rows and clears the record
  pub data Leaving : Effect (List ℕ) → Type 0 where
    stayed : (a : Told) → (refusal_number a ≡ 0 → ⊥) → Leaving (telling a t w)
    left : Leaving (telling (answers no_bytes) (cleared_table t n) (after_logout w n))

  pub own_logout : code f ≡ LOGOUT → Leaving (frame_effect n f s t w)
  unfolding frame_effect request_in plain request_effect effect_of logout_effect
  own_logout e = by_eq (refusal n f s t w) 0
      (λ z. rw (z, e) left)
      (λ ne. rw (ne_eqb (refusal n f s t w) 0 ne) (stayed _ (told_refuses s (refusal n f s t w) ne)))

  -- of a station that is logged in, a whole frame that holds no address, no login and no logout is not refused in good tables with a good site file
  pub not_refused : good_tables t w ≡ true → good_site s ≡ true → logged_in w n ≡ true → (c : ℕ) → code f ≡ c → length f ≡ frame_length c → eqb (frame_length c) 0 ≡ false
      → carries_address c ≡ false → eqb c LOGIN ≡ false → eqb c LOGOUT ≡ false → refusal n f s t w ≡ 0
  unfolding refusal frame_refusal frame_tests refusal_of unknown misplaced src_differs place_refusal
  not_refused good site in-now c e long some no_address no-login no-logout =
      let below = logged_below w (good_is w (records_good t w good)).sized n in-now in
      let off = ne_eqb n ANYBODY (λ (q : n ≡ ANYBODY). omega arith) in
      rw (good, site, long, e, some, in-now, off, no_address, no-login, no-logout, eq-eqb (frame_length c) (frame_length c) refl)

  -- an acknowledge, a read, a write or an assign leaves both tables
  pub side_stays : side_frame f ≡ true → ((frame_effect n f s t w).locks ≡ t) × ((frame_effect n f s t w).records ≡ w)
  unfolding side_frame frame_effect request_in named_in plain request_effect effect_of
  side_stays y = by_eq (refusal n f s t w) 0
      (λ z. rw z (go (side_code (code f) y)))
      (λ ne. rw (ne_eqb (refusal n f s t w) 0 ne) (refl, refl))
    where
      go : Side (code f) → ((request_effect (request_in f) n s t w).locks ≡ t) × ((request_effect (request_in f) n s t w).records ≡ w)
      go (acknowledge e) = rw e (refl, refl)
      go (read e) = rw e (refl, refl)
      go (write e) = rw e (refl, refl)
      go (assign e) = rw e (refl, refl)

-- an empty frame is refused
pub data Refused (t w : List ℕ) : Effect (List ℕ) → Type 0 where
  refuses_with : (a : Told) → (refusal_number a ≡ 0 → ⊥) → Refused t w (telling a t w)

empty_refusal : (n : ℕ) (s t w : List ℕ) → refusal n [] s t w ≡ 0 → ⊥
unfolding refusal frame_refusal frame_tests refusal_of
empty_refusal n s t w z = by_test (good_tables t w)
    (λ g. by_test (good_site s)
    (λ h. let lie : ◌≡◌ {A = ℕ} 1 0 = rw (g, h) at z in omega arith)
    (λ h. let lie : ◌≡◌ {A = ℕ} 10 0 = rw (g, h) at z in omega arith))
    (λ g. let lie : ◌≡◌ {A = ℕ} 11 0 = rw g at z in omega arith)

pub empty_refused : (n : ℕ) (s t w : List ℕ) → Refused t w (frame_effect n [] s t w)
unfolding frame_effect
empty_refused n s t w = let ne = empty_refusal n s t w in
    rw (ne_eqb (refusal n [] s t w) 0 ne) (refuses_with _ (told_refuses s (refusal n [] s t w) ne))
