-- What the C program can rely on, over the contracts of the entries. `Bytes` is what the types say of every slice.
use Prim.Native.Nat.{ℕ, ◌<◌}
use native.Mathlib.Omega.{arith}
use mathlib.Core.Path.{◌≡◌, refl, sym, ap, ◌∙◌}
use mathlib.Core.Bool.{true, false}
use mathlib.Core.List.{List}
use lib.Dec.{eqb}
use borrow.Author.Tests.{ne_eqb}
use Rattle.rows.proofs.BoolLaws.{by_test, by_eq}
pub use Rattle.rows.proofs.NumberLaws.{Bytes}
use Rattle.rows.specs.Outcomes.{Gives}
use Rattle.terms.specs.declared.Address.{Address}
use Rattle.frames.specs.declared.Command.{Command}
use Rattle.frames.specs.declared.Command.TheVariants.{Acknowledge, Read, Write, Login, Assign, Lock, Unlock, Clear, Logout}
use Rattle.frames.specs.declared.Request.{Request}
use Rattle.frames.specs.Reading.{request_in}
use Rattle.site.specs.Rules.{good_site}
use Rattle.site.specs.Faults.{first_fault, checked}
use Rattle.site.specs.Places.{Placed, placed_in, placed_by}
use Rattle.site.proofs.PlaceLaws.{placed_low}
use Rattle.master.proofs.EffectLaws.{unless_keeps}
use Rattle.master.proofs.Outcomes.{told_number}
use Rattle.master.proofs.RefusalLaws.{ten_is_site}
use Rattle.master.specs.Answers.{refusal_number, fault_told, turn_was, answers_unless}
use Rattle.master.specs.Refusals.{refusal}
use Rattle.master.specs.Frames.{place_told, row_answer, assignable, assign_answer, logout_effect, old_logouts, number_given, login_effect, effect_of, request_effect, refusal_told, frame_effect}
use Rattle.hinet.specs.Packing.{word, refusal_in, told_in}
use Rattle.hinet.specs.Entries.{checked_told, site_told, site_word, located_told, place_word, Tells, Freshened, Served, is_heard, Polled, due_word}
use Rattle.hinet.proofs.PackLaws.{Tellable, word_back, refused_told, choice_tells, refused_choice}
use Rattle.hinet.proofs.TellLaws.{placed_fits, site_fits, frame_fits, poll_small, poll_choice}
use Rattle.master.specs.Effects.{Effect, unless}
use Rattle.master.specs.Fresh.{fresh_effect, sized}
use Rattle.master.specs.Polls.{due_now, out_now, poll_refusal, poll_effect, due_told, station_at}

-- any two outcomes that a contract allows are equal
pub tells_one : {e : Effect (List ℕ)} {t' w' t'' w'' : List ℕ} {r q : ℕ} → Tells e r t' w' → Tells e q t'' w'' → (r ≡ q) × (t' ≡ t'') × (w' ≡ w'')
tells_one x y = (x.answer ∙ sym y.answer, x.locks ∙ sym y.locks, x.stations ∙ sym y.stations)

-- a place is refused with 8 or 9, if at all
place_low : (p : Placed) → p.refusal < 10 → refusal_number (place_told p) < 10
unfolding place_told refusal_number
place_low p l = by_test (eqb p.refusal 0) (λ y. rw y (omega arith)) (λ m. rw m l)

-- the word of the site check tells the first fault, or nothing
module _ (s : List ℕ) (r : ℕ) (done : Gives (site_word s) r) where
  pub site_word_tells : told_in r ≡ site_told s
  unfolding site_word
  site_word_tells = ap told_in done.answer ∙ word_back (site_told s) (site_fits s)

-- the word of a place, taken apart, tells the place; a refused one is its number and nothing else, but for 10, which is the site check's
module _ (s : List ℕ) (a : Address) (r : ℕ) (done : Gives (place_word s a) r) where
  pub place_word_tells : told_in r ≡ located_told (placed_by s a)
  unfolding place_word
  place_word_tells = ap told_in done.answer ∙ word_back (located_told (placed_by s a)) (placed_fits s a)

  pub refused_place_bare : (refusal_in r ≡ 0 → ⊥) → (refusal_in r ≡ 10 → ⊥) → r ≡ refusal_in r
  unfolding place_word
  refused_place_bare ne = (refused_told (located_told (placed_by s a)) (placed_fits s a) r done.answer ne).1

  pub faulty_place : refusal_in r ≡ 10 → r ≡ site_word s
  unfolding place_word site_word site_told checked_told checked
  faulty_place e =
      let told = (refused_told (located_told (placed_by s a)) (placed_fits s a) r done.answer (λ z. omega arith)).0 in
      by_test (good_site s)
      (λ y. let lie : refusal_number (place_told (placed_in s a)) ≡ refusal_in r = ap refusal_number (sym (good y)) ∙ told in absurd (omega (arith, place_low (placed_in s a) (placed_low s a))))
      (λ m. done.answer ∙ rw m (ap word (bad m)))
    where
      good : good_site s ≡ true → located_told (placed_by s a) ≡ place_told (placed_in s a)
      good y = unfold placed_by located_told in rw y

      bad : good_site s ≡ false → located_told (placed_by s a) ≡ fault_told (first_fault s)
      bad m = unfold placed_by located_told in rw m

-- the word of an entry whose answer fits, taken apart, tells what the master tells; a refused one is its number and nothing else, but for
-- 10, and both tables are as they were
module _ (e : Effect (List ℕ)) (fits : Tellable e.tells) (r : ℕ) (t' w' : List ℕ) (done : Tells e r t' w') where
  pub word_tells : told_in r ≡ e.tells
  word_tells = ap told_in done.answer ∙ word_back e.tells fits

  pub untouched : (t w : List ℕ) → ((refusal_number e.tells ≡ 0 → ⊥) → (e.locks ≡ t) × (e.records ≡ w)) → (refusal_in r ≡ 0 → ⊥)
      → ((refusal_in r ≡ 10 → ⊥) → r ≡ refusal_in r) × (t' ≡ t) × (w' ≡ w)
  untouched t w keeps ne =
      let told = refused_told e.tells fits r done.answer ne in
      let kept = keeps (λ z. ne (sym told.0 ∙ z)) in
      (told.1, done.locks ∙ kept.0, done.stations ∙ kept.1)

-- fresh tables of another size: 11, and neither table is touched
pub refused_fresh_untouched : (t w : List ℕ) (r : ℕ) (t' w' : List ℕ) → Freshened t w r t' w' → (refusal_in r ≡ 0 → ⊥) → (r ≡ 11) × (t' ≡ t) × (w' ≡ w)
unfolding fresh_effect unless word refusal_in
refused_fresh_untouched t w r t' w' done ne = by_test (sized t w)
    (λ y. let z : r ≡ 0 = done.answer ∙ rw y in absurd (ne (ap refusal_in z)))
    (λ m. (done.answer ∙ rw m, done.locks ∙ rw m, done.stations ∙ rw m))

module _ (n : ℕ) (f s t w : List ℕ) where
  -- a login that is served is answered
  login_answers : (q : Request) (product : ℕ) (t w : List ℕ) → refusal_number (login_effect q product s t w).tells ≡ 0
  unfolding login_effect refusal_number
  login_answers q product t w = by_test (eqb (number_given w) 0) (λ y. rw y) (λ m. rw m)

  -- a command that is refused changes nothing, and is refused with 8 or 9
  keeps : (c : Command) (q : Request) → (refusal_number (effect_of c q n s t w).tells ≡ 0 → ⊥) → ((effect_of c q n s t w).locks ≡ t) × ((effect_of c q n s t w).records ≡ w)
  unfolding effect_of logout_effect refusal_number
  keeps Acknowledge q ne = (refl, refl)
  keeps (Read src a) q ne = (refl, refl)
  keeps (Write src a) q ne = (refl, refl)
  keeps (Login product) q ne = absurd (ne (login_answers q product _ _))
  keeps Assign q ne = (refl, refl)
  keeps Lock q ne = absurd (ne refl)
  keeps Unlock q ne = absurd (ne refl)
  keeps Clear q ne = absurd (ne refl)
  keeps (Logout src) q ne = absurd (ne refl)

  low : (c : Command) (q : Request) → refusal_number (effect_of c q n s t w).tells < 10
  unfolding effect_of logout_effect assign_answer row_answer refusal_number
  low Acknowledge q = omega arith
  low (Read src a) q = place_low (placed_in s a) (placed_low s a)
  low (Write src a) q = place_low (placed_in s a) (placed_low s a)
  low (Login product) q = omega (arith, login_answers q product (old_logouts q.serial t w).locks (old_logouts q.serial t w).records)
  low Assign q = by_test (assignable q s) (λ y. rw y (omega arith)) (λ m. rw m (omega arith))
  low Lock q = omega arith
  low Unlock q = omega arith
  low Clear q = omega arith
  low (Logout src) q = omega arith

  -- nor does a frame that is refused
  pub frame_keeps : (refusal_number (frame_effect n f s t w).tells ≡ 0 → ⊥) → ((frame_effect n f s t w).locks ≡ t) × ((frame_effect n f s t w).records ≡ w)
  unfolding frame_effect request_effect
  frame_keeps = unless_keeps (refusal n f s t w) (refusal_told s (refusal n f s t w)) t w _ (keeps (request_in f).command (request_in f))

  module _ (frame : Bytes f) (site : Bytes s) (r : ℕ) (t' w' : List ℕ) (done : Served n f s t w r t' w') where
    pub frame_word_tells : told_in r ≡ (frame_effect n f s t w).tells
    frame_word_tells = word_tells (frame_effect n f s t w) (frame_fits n f s t w frame site) r t' w' done

    pub refused_frame_untouched : (refusal_in r ≡ 0 → ⊥) → ((refusal_in r ≡ 10 → ⊥) → r ≡ refusal_in r) × (t' ≡ t) × (w' ≡ w)
    refused_frame_untouched = untouched (frame_effect n f s t w) (frame_fits n f s t w frame site) r t' w' done t w frame_keeps

    -- 10 is told with the fault that the site check tells
    pub faulty_frame : refusal_in r ≡ 10 → r ≡ site_word s
    unfolding site_word site_told checked_told checked
    faulty_frame e =
        let told = (refused_told (frame_effect n f s t w).tells (frame_fits n f s t w frame site) r done.answer (λ z. omega arith)).0 in
        let ten = ten_told (told ∙ e) in
        rw (ten_is_site n f w s t ten) (done.answer ∙ ap word (tells ten))
      where
        ten_told : refusal_number (frame_effect n f s t w).tells ≡ 10 → refusal n f s t w ≡ 10
        ten_told z = unfold frame_effect request_effect in by_eq (refusal n f s t w) 0
            (λ none. absurd (omega (arith, low (request_in f).command (request_in f), rw none at z)))
            (λ ne. sym (told_number s (refusal n f s t w)) ∙ rw (ne_eqb (refusal n f s t w) 0 ne) at z)

        tells : refusal n f s t w ≡ 10 → (frame_effect n f s t w).tells ≡ fault_told (first_fault s)
        tells ten = unfold frame_effect refusal_told in rw ten

-- a poll turn: a refused one is its number and nothing else, and both tables are as they were
module _ (n heard : ℕ) (t w : List ℕ) (r : ℕ) (t' w' : List ℕ) (done : Polled n heard t w r t' w') where
  chosen : r ≡ word (answers_unless (poll_refusal n (is_heard heard) t w) (turn_was (due_now (station_at w n)) (out_now (station_at w n) (is_heard heard))))
  chosen = done.answer ∙ ap word (poll_choice n (is_heard heard) t w)

  pub poll_word_tells : told_in r ≡ (poll_effect n (is_heard heard) t w).tells
  poll_word_tells = choice_tells _ (poll_small n (is_heard heard) t w) _ tt r chosen ∙ sym (poll_choice n (is_heard heard) t w)

  pub refused_poll_untouched : (refusal_in r ≡ 0 → ⊥) → (r ≡ refusal_in r) × (t' ≡ t) × (w' ≡ w)
  refused_poll_untouched ne =
      let told = refused_choice _ (poll_small n (is_heard heard) t w) _ tt r chosen ne in
      let kept = stays told.2 in
      (told.0, done.locks ∙ kept.0, done.stations ∙ kept.1)
    where
      stays : eqb (poll_refusal n (is_heard heard) t w) 0 ≡ false → ((poll_effect n (is_heard heard) t w).locks ≡ t) × ((poll_effect n (is_heard heard) t w).records ≡ w)
      stays h = unfold poll_effect unless in rw h (refl, refl)

-- whether a turn is due: the word tells it, and a refused one is its number and nothing else
module _ (n : ℕ) (t w : List ℕ) (r : ℕ) (done : Gives (due_word n t w) r) where
  pub due_word_tells : told_in r ≡ due_told n t w
  unfolding due_word due_told
  due_word_tells = choice_tells (poll_refusal n false t w) (poll_small n false t w) (turn_was (due_now (station_at w n)) false) tt r done.answer

  pub refused_due_bare : (refusal_in r ≡ 0 → ⊥) → (r ≡ refusal_in r) × (r ≡ poll_refusal n false t w)
  unfolding due_word due_told
  refused_due_bare ne =
      let told = refused_choice (poll_refusal n false t w) (poll_small n false t w) (turn_was (due_now (station_at w n)) false) tt r done.answer ne in
      (told.0, told.1)
