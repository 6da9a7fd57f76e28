-- Equality of names is equality of the normal form, and what follows from that.
use Prim.Native.Nat.{ℕ, zero, suc, ◌≤◌, ◌<◌}
use native.Mathlib.Nat.{not-suc-le-zero, le_of_suc-le-suc}
use native.Mathlib.Omega.{arith}
use mathlib.Core.Path.{◌≡◌, refl, sym, ap, ap₂, ◌∙◌, subst}
use mathlib.Core.Bool.{true, false}
use mathlib.Core.List.{List, [], ◌∷◌}
use lib.Dec.{ltb}
use lib.ListN.{length, get_or}
use borrow.Author.Tests.{ltb-true, ltb-false}
use Rattle.rows.proofs.BoolLaws.{by_test, both}
use Rattle.rows.proofs.BuildLaws.{same_is, same_refl}
use Rattle.rows.specs.Words.{same}
use Rattle.terms.specs.Names.{pads, keeping, trimmed, same_name}

-- equal names have one normal form, and names with one normal form are equal
pub same_trimmed : (a b : List ℕ) → same_name a b ≡ true → trimmed a ≡ trimmed b
unfolding same_name
same_trimmed a b h = same_is (trimmed a) (trimmed b) h

pub trimmed_same : (a b : List ℕ) → trimmed a ≡ trimmed b → same_name a b ≡ true
unfolding same_name
trimmed_same a b e = rw e (same_refl (trimmed b))

-- so it is reflexive, symmetric and transitive
pub name_refl : (a : List ℕ) → same_name a a ≡ true
name_refl a = trimmed_same a a refl

pub name_sym : (a b : List ℕ) → same_name a b ≡ true → same_name b a ≡ true
name_sym a b h = trimmed_same b a (sym (same_trimmed a b h))

pub name_trans : (a b c : List ℕ) → same_name a b ≡ true → same_name b c ≡ true → same_name a c ≡ true
name_trans a b c p q = trimmed_same a c (same_trimmed a b p ∙ same_trimmed b c q)

-- and names that are equal byte by byte are equal still
pub same_still : (a b : List ℕ) → same a b ≡ true → same_name a b ≡ true
same_still a b h = trimmed_same a b (ap trimmed (same_is a b h))

-- a byte in front of what is kept behind it: padding with nothing behind it is dropped, any other byte stays
pub data Keeps (b : ℕ) (t : List ℕ) : List ℕ → Type 0 where
  drops : pads b ≡ true → t ≡ [] → Keeps b t []
  stays : (t ≡ [] → pads b ≡ false) → Keeps b t (b ∷ t)

pub keeps : (b : ℕ) (t : List ℕ) → Keeps b t (keeping b t)
unfolding keeping
keeps b [] = by_test (pads b) (λ y. rw y (drops y refl)) (λ n. rw n (stays (λ _. n)))
keeps b (c ∷ rest) = stays (λ e. absurd (omega (arith, ap length e)))

-- what is kept of a name is its front, and the rest is padding
kept_at : (a : List ℕ) (i : ℕ) → i < length (trimmed a) → get_or (trimmed a) i 0 ≡ get_or a i 0
unfolding trimmed
kept_at [] i l = refl
kept_at (b ∷ a) i l = front (trimmed a) (keeping b (trimmed a)) (keeps b (trimmed a)) i l (kept_at a)
  where
    front : (t s : List ℕ) → Keeps b t s → (i : ℕ) → i < length s → ((k : ℕ) → k < length t → get_or t k 0 ≡ get_or a k 0) → get_or s i 0 ≡ get_or (b ∷ a) i 0
    front t [] (drops y none) i l rest = absurd (not-suc-le-zero l)
    front t _ (stays last) zero l rest = refl
    front t _ (stays last) (suc i) l rest = rest i (le_of_suc-le-suc l)

rest_pads : (a : List ℕ) (j : ℕ) → length (trimmed a) ≤ j → pads (get_or a j 0) ≡ true
unfolding trimmed pads
rest_pads [] j l = refl
rest_pads (b ∷ a) j l = behind (trimmed a) (keeping b (trimmed a)) (keeps b (trimmed a)) j l (rest_pads a)
  where
    behind : (t s : List ℕ) → Keeps b t s → (j : ℕ) → length s ≤ j → ((k : ℕ) → length t ≤ k → pads (get_or a k 0) ≡ true) → pads (get_or (b ∷ a) j 0) ≡ true
    behind t [] (drops y none) zero l rest = y
    behind t [] (drops y none) (suc j) l rest = rest j (omega (arith, ap length none))
    behind t _ (stays last) zero l rest = absurd (not-suc-le-zero l)
    behind t _ (stays last) (suc j) l rest = rest j (le_of_suc-le-suc l)

-- equal names: from a byte on in which they differ there is nothing but padding
pub differ_pads : (a b : List ℕ) → same_name a b ≡ true → (i j : ℕ) → i ≤ j → (get_or a i 0 ≡ get_or b i 0 → ⊥) → (pads (get_or a j 0) ≡ true) × (pads (get_or b j 0) ≡ true)
differ_pads a b h i j l differ =
    let one = same_trimmed a b h in
    by_test (ltb i (length (trimmed a)))
    (λ y. absurd (differ (sym (kept_at a i (ltb-true _ _ y)) ∙ ap (λ (t : List ℕ). get_or t i 0) one ∙ kept_at b i (subst (λ (t : List ℕ). i < length t) one (ltb-true _ _ y)))))
    (λ n.
    let past : length (trimmed a) ≤ i = ltb-false _ _ n in
    (rest_pads a j (omega (arith, past)), rest_pads b j (omega (arith, past, ap length one))))

-- and names of one length that agree up to there are equal
none_kept : (a : List ℕ) → ((j : ℕ) → pads (get_or a j 0) ≡ true) → trimmed a ≡ []
unfolding trimmed
none_kept [] h = refl
none_kept (b ∷ a) h = nothing (none_kept a (λ j. h (suc j))) (h 0) (keeps b (trimmed a))
  where
    nothing : {t s : List ℕ} → t ≡ [] → pads b ≡ true → Keeps b t s → s ≡ []
    nothing e y (drops _ _) = refl
    nothing e y (stays last) = both y (last e)

agree : (a b : List ℕ) (k : ℕ) → length a ≡ length b → ((i : ℕ) → i < k → get_or a i 0 ≡ get_or b i 0) → ((j : ℕ) → k ≤ j → (pads (get_or a j 0) ≡ true) × (pads (get_or b j 0) ≡ true)) → trimmed a ≡ trimmed b
unfolding trimmed
agree a b zero long front rest = none_kept a (λ j. (rest j (omega arith)).0) ∙ sym (none_kept b (λ j. (rest j (omega arith)).1))
agree [] [] (suc k) long front rest = refl
agree [] (y ∷ b) (suc k) long front rest = absurd (omega (arith, long))
agree (x ∷ a) [] (suc k) long front rest = absurd (omega (arith, long))
agree (x ∷ a) (y ∷ b) (suc k) long front rest =
    ap₂ keeping (front 0 (omega arith)) (agree a b k (omega (arith, long)) (λ i l. front (suc i) (omega (arith, l))) (λ j l. rest (suc j) (omega (arith, l))))

pub pads_same : (a b : List ℕ) (k : ℕ) → length a ≡ length b → ((i : ℕ) → i < k → get_or a i 0 ≡ get_or b i 0) → ((j : ℕ) → k ≤ j → (pads (get_or a j 0) ≡ true) × (pads (get_or b j 0) ≡ true)) → same_name a b ≡ true
pads_same a b k long front rest = trimmed_same a b (agree a b k long front rest)
