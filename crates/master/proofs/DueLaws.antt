-- Whether the next turn is due, as the code finds it and as the turn tells it. Who polls by it never sees 12.
use Prim.Native.Nat.{ℕ, ◌<◌}
use mathlib.Core.Path.{◌≡◌, refl, sym, ap, ◌∙◌}
use mathlib.Core.Bool.{Bool, true, false, cond, not, ◌&&◌}
use mathlib.Core.List.{List}
use lib.Dec.{eqb}
use borrow.Author.Tests.{ne_eqb}
use Rattle.rows.proofs.BoolLaws.{by_eq, by_test}
use Rattle.rows.specs.Numbers.{bit_at}
use Rattle.who.specs.Good.{numbers, stations_of, good_records}
use Rattle.who.specs.Inner.{word_of}
use Rattle.who.specs.Logins.{logged_in}
use Rattle.who.proofs.WhoLaws.{good_is, logged_below, word_logged}
use Rattle.locks.specs.Good.{good_locks}
use Rattle.master.specs.Answers.{refuses, answers, turn_was}
use Rattle.master.specs.Effects.{unless}
use Rattle.master.specs.Inner.{seat_refusal}
use Rattle.master.specs.Polls.{turn_refusal, due_now, out_now, station_turn, station_at, poll_refusal, poll_effect, due_told}
use Rattle.master.specs.Tables.{good_tables}
use Rattle.master.proofs.Outcomes.{no_answer}
use Rattle.master.proofs.PollLaws.{seated, refusal_last}

module _ (n : ℕ) (t w : List ℕ) where
  pub due_bad : good_records w ≡ false → due_told n t w ≡ refuses 11
  unfolding due_told poll_refusal turn_refusal good_tables
  due_bad m = rw m

  -- the word of who is logged in refuses as the records do
  module _ (good : good_records w ≡ true) (word : ℕ) (is : word ≡ word_of (stations_of w)) where
    seat_same : seat_refusal (good_locks (bit_at word) t) (bit_at word) n ≡ poll_refusal n false t w
    unfolding seat_refusal poll_refusal turn_refusal good_tables
    seat_same = rw good (ap (λ (p : ℕ → Bool). turn_refusal (good_locks p t) p n false true) (word_logged w (good_is w good).sized word is))

    module _ (k : ℕ) (seat : k ≡ seat_refusal (good_locks (bit_at word) t) (bit_at word) n) where
      pub due_refused : (k ≡ 0 → ⊥) → due_told n t w ≡ refuses k
      unfolding due_told
      due_refused ne = rw (sym (seat ∙ seat_same), ne_eqb k 0 ne)

      pub due_seated : k ≡ 0 → n < numbers
      unfolding poll_refusal
      due_seated z = logged_below w (good_is w good).sized n (seated (good_tables t w) (logged_in w) n false (due_now (station_at w n)) (sym (seat ∙ seat_same) ∙ z)).is_in_lem

      pub due_answered : k ≡ 0 → due_told n t w ≡ answers (turn_was (due_now (station_at w n)) false)
      unfolding due_told
      due_answered z = rw (sym (seat ∙ seat_same) ∙ z)

  -- the seat is what a turn is refused for but for 12
  abbrev seat_now : ℕ
  seat_now = seat_refusal (good_tables t w) (logged_in w) n

  unheard : poll_refusal n false t w ≡ seat_now
  unfolding poll_refusal seat_refusal turn_refusal
  unheard = refl

  heard_refusal : (heard : Bool) → poll_refusal n heard t w ≡ cond (eqb seat_now 0) (cond (heard && not (due_now (station_at w n))) 12 0) seat_now
  unfolding poll_refusal
  heard_refusal heard = refusal_last (good_tables t w) (logged_in w) n heard (due_now (station_at w n))

  -- a turn that is not refused, heard or not, tells of due what was told before
  pub due_as_turned : (heard : Bool) → poll_refusal n heard t w ≡ 0
      → (due_told n t w ≡ answers (turn_was (due_now (station_at w n)) false)) × ((poll_effect n heard t w).tells ≡ answers (turn_was (due_now (station_at w n)) (out_now (station_at w n) heard)))
  unfolding due_told poll_effect unless station_turn
  due_as_turned heard z =
      let seat : seat_now ≡ 0 = by_eq seat_now 0 (λ e. e) (λ ne. sym (heard_refusal heard ∙ rw (ne_eqb seat_now 0 ne)) ∙ z) in
      (rw (unheard ∙ seat), rw z (by_test (out_now (station_at w n) heard) (λ y. rw y) (λ m. rw m)))

  -- heard at a turn that was told to be due is taken, and otherwise it is 12
  pub heard_as_told : (due : Bool) → due_told n t w ≡ answers (turn_was due false) → poll_refusal n true t w ≡ cond due 0 12
  unfolding due_told
  heard_as_told due e = by_eq seat_now 0
      (λ z.
      let same : due_now (station_at w n) ≡ due = one_due (rw (unheard ∙ z) at e) in
      heard_refusal true ∙ rw (z, same) (go due))
      (λ ne. absurd (no_answer (rw (unheard, ne_eqb seat_now 0 ne) at e)))
    where
      one_due : {a b : Bool} → answers (turn_was a false) ≡ answers (turn_was b false) → a ≡ b
      one_due h = cc

      go : (b : Bool) → ◌≡◌ {A = ℕ} (cond (not b) 12 0) (cond b 0 12)
      go true = refl
      go false = refl
