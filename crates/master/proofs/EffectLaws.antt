-- The laws of an effect: a refusal changes nothing, and two outcomes are equal.
use Prim.Native.Nat.{ℕ}
use mathlib.Core.Path.{◌≡◌, refl, sym, ◌∙◌}
use mathlib.Core.List.{List}
use borrow.Author.Tests.{ne_eqb}
use Rattle.rows.proofs.BoolLaws.{by_eq}
use Rattle.master.specs.Answers.{Told, refuses, refusal_number}
use Rattle.master.specs.Effects.{Effect, unless_told, unless, Does}

-- any two outcomes of an effect are equal
pub does_one : {A : Type 0} {e : Effect A} {a a' : Told} {t t' : List ℕ} {w w' : A} → Does e a t w → Does e a' t' w' → (a ≡ a') × (t ≡ t') × (w ≡ w')
does_one x y = (x.answer ∙ sym y.answer, x.locks ∙ sym y.locks, x.records ∙ sym y.records)

module _ {A : Type 0} (k : ℕ) (a : Told) (t : List ℕ) (w : A) (done : Effect A) where
  module _ (ne : k ≡ 0 → ⊥) where
    -- what a refused entry tells and leaves, and that it can tell and leave nothing else
    pub refusing_so : Does (unless_told k a t w done) a t w
    refusing_so = rw (ne_eqb k 0 ne) (record { answer = refl; locks = refl; records = refl })

    pub refused_so : {b : Told} {t' : List ℕ} {w' : A} → Does (unless_told k a t w done) b t' w' → (b ≡ a) × (t' ≡ t) × (w' ≡ w)
    refused_so d = does_one d refusing_so

  -- an entry that leaves the tables where what it does is refused leaves them wherever it is refused
  pub unless_keeps : ((refusal_number done.tells ≡ 0 → ⊥) → (done.locks ≡ t) × (done.records ≡ w))
      → (refusal_number (unless_told k a t w done).tells ≡ 0 → ⊥) → ((unless_told k a t w done).locks ≡ t) × ((unless_told k a t w done).records ≡ w)
  unless_keeps keeps refused = by_eq k 0
      (λ z. rw z (keeps (rw z at refused)))
      (λ ne. rw (ne_eqb k 0 ne) (refl, refl))

-- the same where the number is all that is told
module _ {A : Type 0} (k : ℕ) (t : List ℕ) (w : A) (done : Effect A) (ne : k ≡ 0 → ⊥) where
  pub refusing : Does (unless k t w done) (refuses k) t w
  unfolding unless
  refusing = refusing_so k (refuses k) t w done ne

  pub refused_does : {a : Told} {t' : List ℕ} {w' : A} → Does (unless k t w done) a t' w' → (a ≡ refuses k) × (t' ≡ t) × (w' ≡ w)
  refused_does d = does_one d refusing
