-- The laws of what ends a station: who goes on is in and was given to nobody, and only a login gives a number.
use Prim.Native.Nat.{ℕ}
use mathlib.Core.Path.{◌≡◌, refl, sym}
use mathlib.Core.Bool.{Bool, true, false, not, ◌||◌, or-true}
use mathlib.Core.List.{List}
use lib.Dec.{eqb}
use borrow.Author.Tests.{eq-eqb, ne_eqb}
use Rattle.rows.proofs.BoolLaws.{both, by_eq}
use Rattle.who.specs.Logins.{logged_in}
use Rattle.master.specs.Answers.{Answered, login_as, Told, refuses, refuses_site, answers, refusal_number}
use Rattle.master.specs.Effects.{Effect}
use Rattle.master.specs.Ends.{number_in, gives, ends}

module _ (e : Effect (List ℕ)) (k : ℕ) where
  pub not_ended : logged_in e.records k ≡ true → gives e.tells k ≡ false → ends e k ≡ false
  unfolding ends
  not_ended i g = rw (i, g)

  pub ends_out : logged_in e.records k ≡ false → ends e k ≡ true
  unfolding ends
  ends_out o = rw o

  pub ends_given : gives e.tells k ≡ true → ends e k ≡ true
  unfolding ends
  ends_given g = rw g (or-true (not (logged_in e.records k)))

  pub ends_not : ends e k ≡ false → (logged_in e.records k ≡ true) × (gives e.tells k ≡ false)
  unfolding ends
  ends_not = parts (logged_in e.records k) (gives e.tells k)
    where
      parts : (a b : Bool) → (not a || b) ≡ false → (a ≡ true) × (b ≡ false)
      parts true b q = (refl, q)
      parts false b q = both refl q

-- an answer that gives no number gives nobody's
pub gives_none : (a : Answered) → number_in a ≡ 0 → (k : ℕ) → gives (answers a) k ≡ false
unfolding gives
gives_none a z k = by_eq k 0 (λ (e : k ≡ 0). rw (z, e)) (λ ne. rw (z, ne_eqb 0 k (λ e. ne (sym e))))

-- and neither does a refusal
pub gives_refused : (a : Told) → (refusal_number a ≡ 0 → ⊥) → (k : ℕ) → gives a k ≡ false
unfolding gives refusal_number
gives_refused (refuses r) ne k = refl
gives_refused (refuses_site part row breach) ne k = refl
gives_refused (answers a) ne k = absurd (ne refl)

-- a login gives the number that it is answered with, and no other
pub gives_login : (k : ℕ) → (k ≡ 0 → ⊥) → (found : Bool) (serial m : ℕ) → gives (answers (login_as k found serial)) m ≡ eqb k m
unfolding gives number_in
gives_login k nz found serial m = by_eq k m
    (λ (e : k ≡ m). rw (← e, eq-eqb k k refl, ne_eqb k 0 nz))
    (λ ne. rw (ne_eqb k m ne))
