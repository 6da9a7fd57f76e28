-- Who holds which string after each call, for the acting number and for all others.
use Prim.Native.Nat.{ℕ, ◌<◌}
use native.Mathlib.Omega.{arith}
use mathlib.Core.Path.{◌≡◌, refl, sym, ap, ◌∙◌, subst}
use mathlib.Core.Bool.{Bool, true, false, not, cond, ◌&&◌, ◌||◌, and_comm, and-true, and-false, true≢false}
use mathlib.Core.List.{List}
use lib.Dec.{eqb}
use lib.ListN.{length}
use borrow.Author.Tests.{eqb-true, eq-eqb}
use Rattle.rows.specs.Words.{any, first}
use Rattle.rows.specs.Rows.{row}
use Rattle.rows.proofs.BoolLaws.{by_test, by_eq, and_left, and_right, and_both, refuted, iff, eqb_sym}
use Rattle.rows.proofs.IndexLaws.{any_at, first_found, any_same, any_and, any_set}
use Rattle.terms.specs.declared.LockString.{LockString}
use Rattle.terms.specs.Strings.{legal, same_string}
use Rattle.terms.proofs.StringLaws.{legal_same, same_string_refl, same_string_sym, same_string_trans}
use Rattle.terms.specs.Tables.{holds, row_in, row_holds}
use Rattle.terms.proofs.TableLaws.{holds_is, holds_same, free_holds}
use Rattle.locks.specs.Row.{owner, lock_rows, string_of, free_row}
use Rattle.locks.specs.Table.{row_count, holds_at, free_at, owner_at, held_at, is_held, is_own, lock_status, lock_table, unlocks, unlock_status, unlock_table, cleared_table}
use Rattle.locks.specs.Holding.{has_at, has}
use Rattle.locks.proofs.LockRowLaws.{free_free, owner_row_of, holds_row_of, GoodUsed, good_used}
use Rattle.locks.proofs.Cases.{lock_illegal, lock_own, lock_other, lock_full, lock_granted}
use Rattle.locks.proofs.TableLaws.{Fills, Frees, held_row, row_held, own_row, lock_fills, unlock_frees, clear_frees}
use Rattle.locks.proofs.GoodLaws.{Good}

-- a row that holds x in the name of a
pub record HeldBy (t : List ℕ) (a : ℕ) (x : LockString) (i : ℕ) : Type 0 where
  pub held : holds lock_rows x (row 16 t i) ≡ true
  pub owned : owner (row 16 t i) ≡ a

module _ (t : List ℕ) (a : ℕ) (x : LockString) where
  held_by : (i : ℕ) → has_at t a x i ≡ true → HeldBy t a x i
  unfolding has_at row_in row_holds owner_at
  held_by i h = record {
    held = and_left (holds lock_rows x (row 16 t i)) (eqb (owner (row 16 t i)) a) h;
    owned = eqb-true _ _ (and_right (holds lock_rows x (row 16 t i)) (eqb (owner (row 16 t i)) a) h);
  }

  -- the first such row
  pub row_by : ℕ
  row_by = first (has_at t a x) (row_count t)

  pub has_row : has t a x ≡ true → (row_by < row_count t) × HeldBy t a x row_by
  unfolding has row_by
  has_row h = let found = first_found (has_at t a x) (row_count t) h in (found.0, held_by row_by found.1)

  pub row_has : (i : ℕ) → i < row_count t → HeldBy t a x i → has t a x ≡ true
  unfolding has has_at row_in row_holds owner_at
  row_has i l h = any_at (has_at t a x) (row_count t) i l (and_both h.held (eq-eqb _ _ h.owned))

-- a string that is held has an owner
module _ (t : List ℕ) (x : LockString) where
  pub has_held : (a : ℕ) → has t a x ≡ true → is_held t x ≡ true
  has_held a h = let r = has_row t a x h in row_held t x (row_by t a x) r.0 r.1.held

  pub held_has : is_held t x ≡ true → has t (owner_at t (held_at t x)) x ≡ true
  unfolding owner_at
  held_has h = let r = held_row t x h in row_has t _ x (held_at t x) r.0 (record { held = r.1; owned = refl })

-- a string is held where one that is the same is, and by whoever holds that
pub held_same : (t : List ℕ) (a b : LockString) → same_string a b ≡ true → is_held t a ≡ is_held t b
unfolding is_held row_in row_holds
held_same t a b h = any_same (holds_at t b) (holds_at t a) (row_count t) (λ i l. holds_same lock_rows a b (row 16 t i) h)

pub has_same : (t : List ℕ) (who : ℕ) (a b : LockString) → same_string a b ≡ true → has t who a ≡ has t who b
unfolding has has_at row_in row_holds
has_same t who a b h = any_same (has_at t who b) (has_at t who a) (row_count t) (λ i l. ap (λ (c : Bool). c && eqb (owner_at t i) who) (holds_same lock_rows a b (row 16 t i) h))

-- in a good table
module _ {n : ℕ} {w : ℕ → Bool} {t : List ℕ} (g : Good n w t) where
  within : {i : ℕ} → i < row_count t → i < n
  within l = omega (arith, g.sized)

  -- a string has one owner at most
  pub one_holder : (a b : ℕ) (x : LockString) → has t a x ≡ true → has t b x ≡ true → a ≡ b
  one_holder a b x p q =
      let u = has_row t a x p in
      let v = has_row t b x q in
      sym u.1.owned
      ∙ ap (λ (i : ℕ). owner (row 16 t i)) (g.one_row x (row_by t a x) (row_by t b x) (within u.0) (within v.0) u.1.held v.1.held)
      ∙ v.1.owned

  -- whoever holds a string is logged in and is no FF, and the string is legal
  module _ (a : ℕ) (x : LockString) (h : has t a x ≡ true) where
    used_row : GoodUsed w (row 16 t (row_by t a x))
    used_row = let r = has_row t a x h in good_used w _ (g.each (row_by t a x) (within r.0)) (holds_is lock_rows x _ r.1.held).used

    pub held_in : w a ≡ true
    held_in = subst (λ (b : ℕ). w b ≡ true) (has_row t a x h).1.owned used_row.inside

    pub held_legal : legal x ≡ true
    held_legal = sym (legal_same _ x (holds_is lock_rows x _ (has_row t a x h).1.held).string) ∙ used_row.lawful

  -- the sender's own is what the sender has
  pub own_is : (who : ℕ) (s : LockString) → is_own t who s ≡ has t who s
  unfolding is_own
  own_is who s = iff _ _
      (λ h. let o = own_row t who s h in subst (λ (a : ℕ). has t a s ≡ true) o.1 (held_has t s o.0))
      (λ h. let o = has_held t s who h in and_both o (eq-eqb _ _ (one_holder _ who s (held_has t s o) h)))

-- who has what after a free row was filled
pub fills_has : {k : ℕ} {r t t' : List ℕ} → Fills k r t t' → (a : ℕ) (x : LockString) → has t' a x ≡ (has t a x || (holds lock_rows x r && eqb (owner r) a))
unfolding has has_at row_in row_holds owner_at
fills_has {k} {r} {t} {t'} f a x =
    rw f.long
    (any_set (has_at t a x) (has_at t' a x) (row_count t) k f.inside (rw (free_holds lock_rows x (row 16 t k) f.was)) (λ i l ne. rw (f.there i ne))
    ∙ rw f.here)

-- a row that was freed or not, where a test of rows tells which
struck : (p : List ℕ → Bool) → p free_row ≡ false → (r : List ℕ) (b c : Bool) → (p r ≡ true → b ≡ c) → p (cond b free_row r) ≡ (p r && not c)
struck p free r true true h = free ∙ sym (and-false (p r))
struck p free r false false h = sym (and-true (p r))
struck p free r true false h = free ∙ refuted (p r) (λ y. true≢false (h y)) ∙ sym (and-true (p r))
struck p free r false true h = sym (refuted (p r) (λ y. true≢false (sym (h y)))) ∙ sym (and-false (p r))

-- who has what after rows were freed, where c tells whether those that hold x in the name of a are among them
pub frees_has : {f : ℕ → Bool} {t t' : List ℕ} → Frees f t t' → (a : ℕ) (x : LockString) (c : Bool) → ((i : ℕ) → i < row_count t → HeldBy t a x i → f i ≡ c) → has t' a x ≡ (has t a x && not c)
unfolding has has_at row_in row_holds owner_at
frees_has {f} {t} {t'} h a x c tells =
    rw h.long
    (any_and (has_at t a x) (has_at t' a x) (row_count t) (not c) (λ i l.
    rw (h.rows i l) (struck (λ r. holds lock_rows x r && eqb (owner r) a) (rw (free_holds lock_rows x free_row free_free)) (row 16 t i) (f i) c (λ y. tells i l (held_by t a x i y)))))

-- after a grant the sender has the string too, and all else is as it was
pub has_granted : (t : List ℕ) (who : ℕ) (s : LockString) → legal s ≡ true → is_held t s ≡ false → any (free_at t) (row_count t) ≡ true
    → length s.bytes ≡ 13 → (who ≡ 0xFF → ⊥) → (a : ℕ) (x : LockString) → has (lock_table t who s) a x ≡ (has t a x || (eqb a who && same_string s x))
has_granted t who s l h f full ne a x =
    fills_has (lock_fills t who s full l h f) a x
    ∙ rw (holds_row_of who s full ne x, owner_row_of who s, eqb_sym who a, and_comm (same_string s x) (eqb a who))

-- the five answers to a lock, each with the table that is left
pub data LockCase (t : List ℕ) (who : ℕ) (s : LockString) : ℕ → List ℕ → Type 0 where
  illegal : legal s ≡ false → LockCase t who s 0x02 t
  own : legal s ≡ true → has t who s ≡ true → LockCase t who s 0x81 t
  other : legal s ≡ true → has t who s ≡ false → is_held t s ≡ true → LockCase t who s 0x01 t
  full : legal s ≡ true → is_held t s ≡ false → any (free_at t) (row_count t) ≡ false → LockCase t who s 0x82 t
  granted : legal s ≡ true → is_held t s ≡ false → any (free_at t) (row_count t) ≡ true → LockCase t who s 0x00 (lock_table t who s)

-- the two answers to an unlock
pub data UnlockCase (t : List ℕ) (who : ℕ) (s : LockString) : ℕ → List ℕ → Type 0 where
  unlocked : legal s ≡ true → has t who s ≡ true → UnlockCase t who s 0x00 (unlock_table t who s)
  refused : (legal s && has t who s) ≡ false → UnlockCase t who s 0x02 t

module _ {n : ℕ} {w : ℕ → Bool} {t : List ℕ} (g : Good n w t) (who : ℕ) (s : LockString) where
  pub lock_case : LockCase t who s (lock_status t who s) (lock_table t who s)
  lock_case = by_test (legal s)
      (λ l. by_test (is_held t s)
      (λ h. by_eq (owner_at t (held_at t s)) who
      (λ o. let c = lock_own t who s l h o in rw (← c.answer, ← c.left) (own l (subst (λ (a : ℕ). has t a s ≡ true) o (held_has t s h))))
      (λ o. let c = lock_other t who s l h o in rw (← c.answer, ← c.left) (other l (sym (refuted (has t who s) (λ y. o (one_holder g _ who s (held_has t s h) y)))) h)))
      (λ h. by_test (any (free_at t) (row_count t))
      (λ f. rw (← (lock_granted t who s l h f).answer) (granted l h f))
      (λ f. let c = lock_full t who s l h f in rw (← c.answer, ← c.left) (full l h f))))
      (λ l. let c = lock_illegal t who s l in rw (← c.answer, ← c.left) (illegal l))

  -- an unlock is answered 00 exactly where the string is legal and the sender's
  pub unlocks_is : unlocks t who s ≡ (legal s && has t who s)
  unfolding unlocks
  unlocks_is = ap (λ (b : Bool). legal s && b) (own_is g who s)

  pub unlock_case : UnlockCase t who s (unlock_status t who s) (unlock_table t who s)
  unfolding unlock_status
  unlock_case = by_test (unlocks t who s)
      (λ y. let e = sym unlocks_is ∙ y in rw y (unlocked (and_left (legal s) (has t who s) e) (and_right (legal s) (has t who s) e)))
      (λ m. unfold unlock_table in rw m (refused (sym unlocks_is ∙ m)))

  -- of the rows, an unlock frees the one that holds the string in the sender's name
  tells : (a : ℕ) (x : LockString) (i : ℕ) → i < row_count t → HeldBy t a x i → unlocks t who s ≡ true → eqb i (held_at t s) ≡ (eqb a who && same_string s x)
  unfolding unlocks owner_at
  tells a x i l h y =
      let k = held_at t s in
      let o = own_row t who s (and_right (legal s) (is_own t who s) y) in
      let r = held_row t s o.0 in
      iff (eqb i k) (eqb a who && same_string s x)
      (λ d.
      let e : i ≡ k = eqb-true i k d in
      and_both
      (eq-eqb a who (sym h.owned ∙ ap (λ (j : ℕ). owner (row 16 t j)) e ∙ o.1))
      (same_string_trans s (string_of (row 16 t k)) x
      (same_string_sym _ s (holds_is lock_rows s (row 16 t k) r.1).string)
      (subst (λ (j : ℕ). same_string (string_of (row 16 t j)) x ≡ true) e (holds_is lock_rows x (row 16 t i) h.held).string)))
      (λ b. eq-eqb i k (g.one_row s i k (within g l) (within g r.0) (holds_same lock_rows s x (row 16 t i) (and_right (eqb a who) (same_string s x) b) ∙ h.held) r.1))

  -- after an unlock the sender lacks the string, and all else is as it was
  pub has_unlocked : (a : ℕ) (x : LockString) → has (unlock_table t who s) a x ≡ (has t a x && not (unlocks t who s && (eqb a who && same_string s x)))
  has_unlocked a x = frees_has (unlock_frees t who s) a x (unlocks t who s && (eqb a who && same_string s x)) (λ i l h. by_test (unlocks t who s)
      (λ y. rw y (tells a x i l h y))
      (λ m. rw m))

  pub unlocked_gone : has (unlock_table t who s) who s ≡ false
  unlocked_gone = has_unlocked who s ∙ by_test (has t who s)
      (λ y. rw (unlocks_is, y, held_legal g who s y, eq-eqb who who refl, same_string_refl s))
      (λ m. rw m)

-- nothing is the sender's after a clear, and the others have what they had
pub has_cleared : (t : List ℕ) (who a : ℕ) (x : LockString) → has (cleared_table t who) a x ≡ (has t a x && not (eqb a who))
unfolding owner_at
has_cleared t who a x = frees_has (clear_frees t who) a x (eqb a who) (λ i l h. ap (λ (b : ℕ). eqb b who) h.owned)
