-- What the library's answers tell, in the words of the rules.
use Prim.Native.Nat.{ℕ}
use mathlib.Core.Path.{◌≡◌, refl}
use borrow.Author.Tests.{ne_eqb}
use Rattle.std.specs.Prelude.{Result, Ok, Err, MatchResult, IsOkAnd}
use Rattle.refusals.specs.declared.Refusal.{Refusal}
use Rattle.refusals.specs.Refusals.{number}
use Rattle.refusals.specs.Outcomes.{refusal_in, GivesUnless}
use Rattle.refusals.proofs.OutcomeLaws.{number_never_0}
use Rattle.terms.specs.declared.Place.{Place}
use Rattle.site.specs.declared.Fault.{Fault}
use Rattle.site.specs.declared.Refused.{Refused}
use Rattle.site.specs.declared.Refused.TheVariants.{Site, By}
use Rattle.site.specs.Places.{refused, located}
use Rattle.boot.specs.declared.Honor.{Honor}
use Rattle.boot.specs.Honors.{flag_of}
use Rattle.boot.specs.Answers.{booted}
use Rattle.master.specs.declared.Answer.{Answer}
use Rattle.master.specs.declared.Received.{Received}
use Rattle.master.specs.declared.Turned.{Turned}
use Rattle.master.specs.Answers.{Told, refuses, answers, Answered, no_bytes, place_at, honor_flag, answers_unless, fault_told, told, done_told, turn_told}
use Rattle.master.specs.Frames.{place_told}
use Rattle.master.specs.Line.{received_told}
use Rattle.hinet.specs.Tellings.{either_told}
use Rattle.hinet.specs.Entries.{checked_told, located_told}
use Rattle.hinet.specs.BootEntries.{booted_told}

abbrev pub refusal_tells : Refusal → Told
refusal_tells r = refuses (number r)

-- refused by a number, or answered with a value
pub gives_tells : {A : Type 0} (done : A → Told) (k : ℕ) (value : A) (r : Result A Refusal) (a : Answered) → GivesUnless k value r → done value ≡ answers a → either_told done refusal_tells r ≡ answers_unless k a
unfolding either_told
gives_tells done k value (Ok x) a h e = rw (h.0, h.1) e
gives_tells done k value (Err r) a h e = rw (h, ne_eqb (number r) 0 (number_never_0 r))

-- done, with this to tell, or refused
pub step_tells : (a : Answered) (r : Result (Unit {0}) Refusal) → either_told (λ _. answers a) refusal_tells r ≡ answers_unless (refusal_in r) a
unfolding either_told
step_tells a (Ok u) = refl
step_tells a (Err r) = rw (ne_eqb (number r) 0 (number_never_0 r))

pub done_tells : (r : Result (Unit {0}) Refusal) → either_told (λ _. answers no_bytes) refusal_tells r ≡ done_told r
unfolding either_told done_told
done_tells (Ok u) = refl
done_tells (Err r) = refl

pub check_tells : (r : Result (Unit {0}) Fault) → either_told (λ _. answers no_bytes) fault_told r ≡ checked_told r
unfolding either_told checked_told
check_tells (Ok u) = refl
check_tells (Err x) = refl

abbrev pub refused_tells : Refused → Told
refused_tells x = told (Err x)

abbrev pub answer_tells : Answer → Told
answer_tells a = told (Ok a)

pub frame_tells : (r : Result Answer Refused) → either_told answer_tells refused_tells r ≡ told r
unfolding either_told
frame_tells (Ok a) = refl
frame_tells (Err x) = refl

pub place_tells : (r : Result Place Refused) → either_told (λ p. answers (place_at p.volume.0 p.sector)) refused_tells r ≡ located_told (located r)
unfolding either_told located located_told place_told told refused
place_tells (Ok p) = refl
place_tells (Err (Site x)) = refl
place_tells (Err (By r)) = rw (ne_eqb (number r) 0 (number_never_0 r))

pub turn_tells : (r : Result Turned Refusal) → either_told (λ t. turn_told (Ok t)) refusal_tells r ≡ turn_told r
unfolding either_told turn_told
turn_tells (Ok t) = refl
turn_tells (Err r) = refl

pub line_tells : (r : Result Received Refused) → either_told (λ a. received_told (Ok a)) refused_tells r ≡ received_told r
unfolding either_told received_told
line_tells (Ok a) = refl
line_tells (Err x) = refl

pub boot_tells : (r : Result Honor Refusal) → either_told (λ h. answers (honor_flag (flag_of h))) refusal_tells r ≡ booted_told (booted r)
unfolding either_told booted booted_told
boot_tells (Ok h) = refl
boot_tells (Err r) = refl

-- an answer that is told after a step that cannot be refused
pub step_on : {A B E : Type 0} (done : B → Told) (from : A → Told) (refused : E → Told) {post : A → B → Type 0} → ((x : A) (y : B) → post x y → done y ≡ from x) → (r : Result A E) (s : Result B E) → MatchResult r (λ x. IsOkAnd s (post x)) (λ e. s ≡ Err e) → either_told done refused s ≡ either_told from refused r
unfolding either_told
step_on done from refused says (Ok x) (Ok y) h = says x y h
step_on done from refused says (Ok x) (Err e) h = elim h [ ]
step_on done from refused says (Err e) s h = rw h
