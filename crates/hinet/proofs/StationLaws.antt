-- The station's entries: the words of its steps and of the frame it sends, and what the C program can rely on.
use Prim.Native.Nat.{ℕ, min, ◌<◌}
use native.Mathlib.Omega.{arith}
use mathlib.Core.Path.{◌≡◌, refl, ap, ◌∙◌}
use mathlib.Core.Bool.{Bool, true, false, cond, not, ◌&&◌}
use mathlib.Core.List.{List}
use lib.Dec.{eqb, ltb}
use lib.ListN.{length}
use borrow.Author.Tests.{ne_eqb, ltb-true, ltb-false}
use Rattle.rows.proofs.BoolLaws.{by_test, by_eq, either}
use Rattle.std.specs.Prelude.{Result}
use Rattle.refusals.specs.declared.Refusal.{Refusal}
use Rattle.refusals.specs.Outcomes.{refusal_in as refused_by}
use Rattle.terms.specs.Strings.{legal}
use Rattle.frames.specs.Table.{LOCK, UNLOCK, CLEAR}
use Rattle.station.specs.State.{list_of, wait_of, is_full, code_in, asked_in}
use Rattle.station.specs.Good.{state_length, good_state}
use Rattle.station.specs.Asks.{waits, ask_refusal, frame_awaited, send_refusal, sent_of, buffer_after, StepLeaves, fresh_refusal}
use Rattle.station.specs.Replies.{fits, grants, carries_length, adds, reply_refusal, Replies}
use Rattle.station.proofs.Cases.{sent_short}
use Rattle.hinet.specs.Packing.{word, refusal_in, told_in}
use Rattle.hinet.specs.StationEntries.{step_told, Steps, Takes, Sends}
use Rattle.hinet.specs.FrameEntries.{frame_told}
use Rattle.hinet.proofs.PackLaws.{choice_tells, refused_choice}
use Rattle.master.specs.Answers.{answers, no_bytes, frame_made, answers_unless}
use Rattle.hinet.specs.Tellings.{either_told}
use Rattle.hinet.proofs.TellingLaws.{refusal_tells, step_tells}

-- the entries over what the crate station promises
pub stepped : (k : ℕ) (after st : List ℕ) (x : Result (Unit {0}) Refusal) {r : ℕ} {st' : List ℕ} → r ≡ word (either_told (λ _. answers no_bytes) refusal_tells x) → StepLeaves k after st (refused_by x) st' → Steps k after st r st'
unfolding step_told
stepped k after st x e done = record { answer = e ∙ ap word (step_tells no_bytes x ∙ ap (λ k. answers_unless k no_bytes) done.answer); left = done.left }

-- no request lists a reply above 82 hex, so that one which is too large for a byte may become the largest
none_fits : (code n : ℕ) → 0x82 < n → fits code n ≡ false
unfolding fits
none_fits code n large =
    rw (ne_eqb n 0x00 (λ e. omega arith), ne_eqb n 0x81 (λ e. omega arith), ne_eqb n 0x01 (λ e. omega arith), ne_eqb n 0x02 (λ e. omega arith), ne_eqb n 0x82 (λ e. omega arith))
    (go (eqb code LOCK) (eqb code UNLOCK) (eqb code CLEAR))
  where
    go : (l u c : Bool) → cond l false (cond u false (c && false)) ≡ false
    go true u c = refl
    go false true c = refl
    go false false true = refl
    go false false false = refl

pub reply_taken : (st : List ℕ) (n : ℕ) (x : Result (Unit {0}) Refusal) {r : ℕ} {st' : List ℕ} → r ≡ word (either_told (λ _. answers no_bytes) refusal_tells x) → Replies st (min n 255) (refused_by x) st' → Takes st n r st'
unfolding reply_refusal
reply_taken st n x e done = by_test (ltb n 256)
    (λ y.
    let same : min n 255 ≡ n = omega (arith, ltb-true n 256 y) in
    stepped _ _ _ x e (rw same at done))
    (λ m.
    let cut = none_fits (code_in (wait_of st)) (min n 255) (omega (arith, ltb-false n 256 m)) in
    let large = none_fits (code_in (wait_of st)) n (omega (arith, ltb-false n 256 m)) in
    stepped _ _ _ x e (record { answer = done.answer ∙ rw (cut, large); left = done.left ∙ by_test (good_state st) (λ g. rw (g, cut, large)) (λ b. rw b) }))

-- every refusal is a byte
pub fresh_small : (st : List ℕ) → fresh_refusal st < 256
unfolding fresh_refusal
fresh_small st = either (eqb (length st) state_length) 0 11 (omega arith) (omega arith)

pub ask_small : (st : List ℕ) → ask_refusal st < 256
unfolding ask_refusal
ask_small st = either (not (good_state st)) 11 _ (omega arith) (either (waits st) 14 0 (omega arith) (omega arith))

pub reply_small : (st : List ℕ) (n : ℕ) → reply_refusal st n < 256
unfolding reply_refusal
reply_small st n =
    either (not (good_state st)) 11 _ (omega arith)
    (either (not (fits (code_in (wait_of st)) n)) 15 _ (omega arith)
    (either (grants n && (carries_length (code_in (wait_of st)) && not (legal (asked_in (wait_of st))))) 15 _ (omega arith)
    (either (adds (list_of st) (wait_of st) n && is_full (list_of st)) 15 0 (omega arith) (omega arith))))

-- a step: its word tells the refusal, and a refused one is its number alone and leaves the state as it was
module _ (k : ℕ) (small : k < 256) (after st : List ℕ) {r : ℕ} {st' : List ℕ} (done : Steps k after st r st') where
  pub step_word_tells : told_in r ≡ step_told k
  unfolding step_told
  step_word_tells = choice_tells k small no_bytes tt r done.answer

  pub refused_step_untouched : (refusal_in r ≡ 0 → ⊥) → (r ≡ refusal_in r) × (r ≡ k) × (st' ≡ st)
  unfolding step_told
  refused_step_untouched ne =
      let told = refused_choice k small no_bytes tt r done.answer ne in
      (told.0, told.1, done.left ∙ rw told.2)

-- the refusal of a frame sent
module _ (st : List ℕ) (n : ℕ) where
  sent_refusal : (sent_of st n).refusal ≡ send_refusal st n
  unfolding sent_of
  sent_refusal = by_eq (send_refusal st n) 0 (λ z. rw z) (λ ne. rw (ne_eqb (send_refusal st n) 0 ne))

  send_small : (sent_of st n).refusal < 256
  unfolding send_refusal
  send_small = rw sent_refusal (either (not (good_state st)) 11 _ (omega arith) (either (ltb n (length (frame_awaited (wait_of st)))) 13 0 (omega arith) (omega arith)))

-- the word of a frame sent tells its length; a refused one is its number alone and leaves the buffer as it was
module _ (st b : List ℕ) (r : ℕ) (b' : List ℕ) (done : Sends st b r b') where
  pub send_word_tells : told_in r ≡ frame_told (sent_of st (length b)).refusal (sent_of st (length b)).length
  send_word_tells = choice_tells (sent_of st (length b)).refusal (send_small st (length b)) (frame_made (sent_of st (length b)).length) (sent_short st (length b)) r done.answer

  pub refused_send_untouched : (refusal_in r ≡ 0 → ⊥) → (r ≡ refusal_in r) × (b' ≡ b)
  unfolding buffer_after
  refused_send_untouched ne =
      let told = refused_choice (sent_of st (length b)).refusal (send_small st (length b)) (frame_made (sent_of st (length b)).length) (sent_short st (length b)) r done.answer ne in
      let refused = rw (sent_refusal st (length b)) at told.2 in
      (told.0, done.left ∙ rw refused)
