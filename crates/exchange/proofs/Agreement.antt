-- The agreement between a station and the master about the locks in its name, and that each step of an exchange keeps it. k is the
-- station's number, t the lock table, l its list, v the frame it waits for.
use Prim.Native.Nat.{ℕ}
use mathlib.Core.Path.{◌≡◌, refl, sym, ap, ◌∙◌}
use mathlib.Core.Bool.{Bool, true, false, not, ◌&&◌, ◌||◌, and-false, or-false}
use mathlib.Core.List.{List}
use borrow.Author.Tests.{eqb-true}
use Rattle.rows.proofs.BoolLaws.{by_test, both, and_left, or_rest, or_from, contra, iff}
use Rattle.terms.specs.declared.LockString.{LockString}
use Rattle.terms.specs.Strings.{same_string}
use Rattle.frames.specs.Table.{LOCK}
use Rattle.locks.specs.Holding.{has}
use Rattle.station.specs.State.{is_listed, code_in, asked_in}
use Rattle.station.specs.Replies.{grants}
use Rattle.exchange.proofs.Settling.{pending, locking, Settles}

-- what is listed is held; what is held is listed or waited for; and unless it waits for a lock, nothing it waits for is listed
pub record Agrees (k : ℕ) (t l v : List ℕ) : Type 0 where
  pub in_master : (y : LockString) → is_listed l y ≡ true → has t k y ≡ true
  pub in_list : (y : LockString) → has t k y ≡ true → (is_listed l y || pending v y) ≡ true
  pub struck_off : locking v ≡ false → (y : LockString) → pending v y ≡ true → is_listed l y ≡ false

-- what is held in its name stays, whatever else changes
pub agrees_still : {k : ℕ} {t t' l v : List ℕ} → Agrees k t l v → ((y : LockString) → has t' k y ≡ has t k y) → Agrees k t' l v
agrees_still a e = record { in_master = λ y h. e y ∙ a.in_master y h; in_list = λ y h. a.in_list y (sym (e y) ∙ h); struck_off = a.struck_off }

-- what is not waited for is held exactly where it is listed
pub agree_at : {k : ℕ} {t l v : List ℕ} → Agrees k t l v → (y : LockString) → pending v y ≡ false → is_listed l y ≡ has t k y
agree_at {k} {t} {l} {v} a y p = iff (is_listed l y) (has t k y)
    (a.in_master y)
    (λ h. by_test (is_listed l y) (λ e. e) (λ e. both (or_rest (is_listed l y) (pending v y) (a.in_list y h) e) p))

-- waiting for nothing, both hold the same strings
pub agree_same : {k : ℕ} {t l v : List ℕ} → Agrees k t l v → code_in v ≡ 0 → (y : LockString) → is_listed l y ≡ has t k y
unfolding pending
agree_same a z y = agree_at a y (rw z)

pub same_agrees : {k : ℕ} {t l v : List ℕ} → ((y : LockString) → is_listed l y ≡ has t k y) → code_in v ≡ 0 → Agrees k t l v
unfolding pending
same_agrees {k} {t} {l} {v} e z = record {
  in_master = λ y h. sym (e y) ∙ h;
  in_list = λ y h. or_from (is_listed l y) (pending v y) (λ n. both (e y ∙ h) n);
  struck_off = λ f y p. both p (rw z);
}

-- an ask: the list loses what is waited for now, and nothing else
pub asked_agrees : {k : ℕ} {t l' v : List ℕ} (l : List ℕ) → ((y : LockString) → is_listed l y ≡ has t k y) → ((y : LockString) → is_listed l' y ≡ (is_listed l y && not (not (locking v) && pending v y))) → Agrees k t l' v
asked_agrees {k} {t} {l'} {v} l e less = record {
  in_master = λ y h. sym (e y) ∙ and_left (is_listed l y) (not (not (locking v) && pending v y)) (sym (less y) ∙ h);
  in_list = λ y h. rw (less y, e y ∙ h) (missing (locking v) (pending v y));
  struck_off = λ f y p. less y ∙ rw (f, p) (and_not (is_listed l y));
}
  where
    missing : (c p : Bool) → ((true && not (not c && p)) || p) ≡ true
    missing c true = or_from (not (not c && true)) true (λ _. refl)
    missing true false = refl
    missing false false = refl

    and_not : (a : Bool) → (a && false) ≡ false
    and_not true = refl
    and_not false = refl

module _ {k : ℕ} {t t' l v : List ℕ} {b : ℕ} (a : Agrees k t l v) (s : Settles k t t' v b) where
  still_held : (y : LockString) → is_listed l y ≡ true → has t' k y ≡ true
  still_held y h = by_test (pending v y)
      (λ p. by_test (locking v)
      (λ c. s.keeps c y (a.in_master y h))
      (λ c. both h (a.struck_off c y p)))
      (λ p. s.stays y p ∙ a.in_master y h)

  -- the frame was served and the reply is lost
  pub lost_agrees : Agrees k t' l v
  lost_agrees = record {
    in_master = still_held;
    in_list = λ y h. by_test (pending v y)
        (λ p. or_from (is_listed l y) (pending v y) (λ _. p))
        (λ p. a.in_list y (sym (s.stays y p) ∙ h));
    struck_off = a.struck_off;
  }

  -- the reply is taken: 00 or 81 to a lock lists the string
  pub replied_same : (y : LockString) → (is_listed l y || (locking v && (grants b && same_string (asked_in v) y))) ≡ has t' k y
  replied_same y = by_test (pending v y) waited apart
    where
      asked : locking v ≡ true → pending v y ≡ same_string (asked_in v) y
      asked c = unfold pending locking in rw (eqb-true (code_in v) LOCK c)

      waited : pending v y ≡ true → (is_listed l y || (locking v && (grants b && same_string (asked_in v) y))) ≡ has t' k y
      waited p = by_test (locking v)
          (λ c. rw (s.settled y p, c, sym (asked c) ∙ p) (by_test (grants b)
          (λ g. rw g (or_from (is_listed l y) true (λ _. refl)))
          (λ g. rw g (or-false (is_listed l y) ∙ contra (is_listed l y) (has t' k y) (still_held y) (s.settled y p ∙ rw (c, g))))))
          (λ c. rw (c, a.struck_off c y p) (sym (s.settled y p ∙ rw c)))

      apart : pending v y ≡ false → (is_listed l y || (locking v && (grants b && same_string (asked_in v) y))) ≡ has t' k y
      apart p =
          ap (λ (c : Bool). is_listed l y || c) (by_test (locking v) (λ c. rw (c, sym (asked c) ∙ p) (and-false (grants b))) (λ c. rw c))
          ∙ or-false (is_listed l y)
          ∙ agree_at a y p
          ∙ sym (s.stays y p)
