-- An answer tells one thing only, two outcomes of a call are equal, and a refused call leaves everything as it was.
use Prim.Native.Nat.{ℕ}
use mathlib.Core.Path.{◌≡◌, refl, sym, ap, ◌∙◌}
use native.Mathlib.Omega.{arith}
use mathlib.Core.List.{List}
use borrow.Author.Tests.{ne_eqb}
use Rattle.rows.proofs.BoolLaws.{by_eq}
use Rattle.std.specs.Prelude.{Result, Ok, Err}
use Rattle.refusals.specs.declared.Refusal.{Refusal}
use Rattle.refusals.proofs.OutcomeLaws.{named, named_number}
use Rattle.terms.specs.declared.Status as statuses
use Rattle.terms.proofs.StatusLaws.{status_named, status_back}
use Rattle.site.specs.declared.Refused.{Refused}
use Rattle.site.specs.declared.Refused.TheVariants.{Site, By}
use Rattle.master.specs.declared.Answer.{Answer}
use Rattle.master.specs.declared.Answer.TheVariants.{Nothing, Status, Assigned, At, LoggedIn}
use Rattle.site.specs.declared.Fault.{Fault}
use Rattle.site.proofs.FirstFault.{fault_of, fault_back}
use Rattle.master.specs.Answers.{Told, refuses, refuses_site, answers, refusal_number, fault_told, no_bytes, status_byte, assign_bytes, place_at, login_as, turn_was, frame_made, request_of, bits_of, line_of, honor_flag, told, Answered}
use Rattle.master.specs.Refusals.{refusal}
use Rattle.master.specs.Frames.{refusal_told, Serves, frame_effect}
use Rattle.master.specs.Effects.{Effect, Does}
use Rattle.master.proofs.EffectLaws.{does_one, refused_so}

-- a refusal is no answer
pub no_answer : {k : ℕ} {a : Answered} → refuses k ≡ answers a → ⊥
no_answer e = let z : ◌≡◌ {A = ℕ} 0 1 = cc in omega arith

pub refused_no_answer : {x : Told} {a : Answered} → (refusal_number x ≡ 0 → ⊥) → x ≡ answers a → ⊥
unfolding refusal_number
refused_no_answer ne e = ne (ap refusal_number e)

-- what an answer tells, read back
known : Told → Result Answer Refused
known (refuses k) = Err (By (named k))
known (refuses_site part row breach) = Err (Site (fault_of part row breach))
known (answers no_bytes) = Ok Nothing
known (answers (status_byte b)) = Ok (Status (status_named b))
known (answers (assign_bytes z p c v)) = Ok (Assigned z (record { 0 = p }) c (record { 0 = v }))
known (answers (place_at v s)) = Ok (At (record { volume = record { 0 = v }; sector = s }))
known (answers (login_as n f s)) = Ok (LoggedIn n f s)
known (answers (turn_was d o)) = Ok Nothing
known (answers (frame_made l)) = Ok Nothing
known (answers (request_of code)) = Ok Nothing
known (answers (bits_of n)) = Ok Nothing
known (answers (line_of user n)) = Ok Nothing
known (answers (honor_flag n)) = Ok Nothing

known_told : (a : Result Answer Refused) → known (told a) ≡ a
unfolding known told fault_told
known_told (Ok Nothing) = refl
known_told (Ok (Status s)) = ap (λ (x : statuses.Status). Ok (Status x)) (status_back s)
known_told (Ok (Assigned size partition control volume)) = refl
known_told (Ok (At p)) = refl
known_told (Ok (LoggedIn number found serial)) = refl
known_told (Err (By r)) = ap (λ (x : Refusal). Err (By x)) (named_number r)
known_told (Err (Site x)) = ap (λ (y : Fault). Err (Site y)) (fault_back x)

-- two answers that tell the same are equal
pub told_one : (a b : Result Answer Refused) → told a ≡ told b → a ≡ b
told_one a b e = sym (known_told a) ∙ ap known e ∙ known_told b

-- no answer to a frame tells a frame of the line
pub line_not_told : (user len : ℕ) (a : Result Answer Refused) → answers (line_of user len) ≡ told a → ⊥
unfolding known told
line_not_told user len a e =
    let none : Ok Nothing ≡ a = ap known e ∙ known_told a in
    let lie : answers (line_of user len) ≡ answers no_bytes = e ∙ sym (ap told none) in
    never lie
  where
    never : answers (line_of user len) ≡ answers no_bytes → ⊥
    never e = let z : ◌≡◌ {A = ℕ} 0 1 = cc in omega arith

-- any two outcomes of an entry that answers so are equal
pub answer_one : {e : Effect (List ℕ)} {r r' : Result Answer Refused} {t₁ t₂ w₁ w₂ : List ℕ} → Does e (told r) t₁ w₁ → Does e (told r') t₂ w₂ → (r ≡ r') × (t₁ ≡ t₂) × (w₁ ≡ w₂)
answer_one a b = let one = does_one a b in (told_one _ _ one.0, one.1, one.2)

-- what a refusal tells has its number, 10 too
pub told_number : (s : List ℕ) (k : ℕ) → refusal_number (refusal_told s k) ≡ k
unfolding refusal_told refusal_number fault_told
told_number s k = by_eq k 10 (λ (e : k ≡ 10). rw e) (λ ne. rw (ne_eqb k 10 ne))

pub told_refuses : (s : List ℕ) (k : ℕ) → (k ≡ 0 → ⊥) → refusal_number (refusal_told s k) ≡ 0 → ⊥
told_refuses s k ne z = ne (sym (told_number s k) ∙ z)

-- a refused frame: the tables are what they were, and nothing is answered; 10 tells the first fault of the site file
pub refused_untouched : (n : ℕ) (f s t w : List ℕ) (r : Result Answer Refused) (t' w' : List ℕ) → Serves n f s t w r t' w' → (refusal n f s t w ≡ 0 → ⊥)
    → (told r ≡ refusal_told s (refusal n f s t w)) × (t' ≡ t) × (w' ≡ w)
unfolding frame_effect
refused_untouched n f s t w r t' w' a ne = refused_so _ _ _ _ _ ne a
