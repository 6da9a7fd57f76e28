-- A good lock table stays good.
use Prim.Native.Nat.{ℕ, ◌<◌}
use native.Mathlib.Omega.{arith}
use mathlib.Core.Path.{◌≡◌, refl, sym, ◌∙◌}
use mathlib.Core.Bool.{Bool, true, false, not, ◌&&◌}
use mathlib.Core.List.{List}
use lib.Dec.{eqb}
use lib.ListN.{length}
use borrow.Author.Tests.{eqb-false, not-true}
use Rattle.rows.specs.Rows.{row, copies}
use Rattle.rows.proofs.BoolLaws.{by_test, by_eq, both, and_left, and_right}
use Rattle.rows.proofs.RowLaws.{length_copies, row_copies}
use Rattle.terms.specs.declared.LockString.{LockString}
use Rattle.terms.proofs.StringLaws.{same_string_refl}
use Rattle.terms.specs.Tables.{holds}
use Rattle.terms.proofs.TableLaws.{is_holds, free_holds}
use Rattle.locks.specs.Row.{owner, lock_rows, string_of, free_row}
use Rattle.locks.specs.Table.{is_held, lock_status, lock_table, unlock_table, cleared_table}
use Rattle.locks.specs.Good.{sound_row, locks, sound_rows, fresh_locks}
use Rattle.locks.specs.Holding.{has}
use Rattle.locks.proofs.LockRowLaws.{free_free, free_good, good_row_of, good_beside, holds_row_of}
use Rattle.locks.proofs.TableLaws.{Fills, Frees, row_held, lock_fills, unlock_frees, clear_frees}
use Rattle.locks.proofs.GoodLaws.{Good, good_is, is_good}
use Rattle.locks.proofs.HoldingLaws.{row_has, held_same, held_in, has_cleared, LockCase, illegal, own, other, full, granted, lock_case}

-- a free row is filled with a good row, whose string nobody holds
module _ {n k : ℕ} {w : ℕ → Bool} {r t t' : List ℕ} (f : Fills k r t t') (good : sound_row w r ≡ true) (new : (x : LockString) → holds lock_rows x r ≡ true → is_held t x ≡ false) (g : Good n w t) where
  clash : (x : LockString) (i j : ℕ) → i ≡ k → (j ≡ k → ⊥) → j < n → holds lock_rows x (row 16 t' i) ≡ true → holds lock_rows x (row 16 t' j) ≡ true → ⊥
  clash x i j e ne l p q =
      both (row_held t x j (omega (arith, g.sized)) (rw (f.there j ne) at q)) (new x (rw (e, f.here) at p))

  fills_keep : Good n w t'
  fills_keep = record {
    sized = f.long ∙ g.sized;
    each = λ i l. by_eq i k (λ (e : i ≡ k). rw (e, f.here) good) (λ ne. rw (f.there i ne) (g.each i l));
    one_row = λ x i j l m p q. by_eq i k
        (λ e. by_eq j k (λ d. e ∙ sym d) (λ nd. absurd (clash x i j e nd m p q)))
        (λ ne. by_eq j k
        (λ d. absurd (clash x j i d ne l q p))
        (λ nd. g.one_row x i j l m (rw (f.there i ne) at p) (rw (f.there j nd) at q)));
  }

-- rows are freed
module _ {n : ℕ} {f : ℕ → Bool} {w : ℕ → Bool} {t t' : List ℕ} (h : Frees f t t') (g : Good n w t) where
  was : (x : LockString) (i : ℕ) → i < n → holds lock_rows x (row 16 t' i) ≡ true → holds lock_rows x (row 16 t i) ≡ true
  was x i l p =
      let e = h.rows i (omega (arith, g.sized)) in
      by_test (f i)
      (λ y. both (rw (e, y) at p) (free_holds lock_rows x free_row free_free))
      (λ m. rw (e, m) at p)

  frees_keep : Good n w t'
  frees_keep = record {
    sized = h.long ∙ g.sized;
    each = λ i l. rw (h.rows i (omega (arith, g.sized))) (by_test (f i) (λ y. rw y (free_good w)) (λ m. rw m (g.each i l)));
    one_row = λ x i j l m p q. g.one_row x i j l m (was x i l p) (was x j m q);
  }

module _ (n : ℕ) (w : ℕ → Bool) (t : List ℕ) (h : sound_rows n w t ≡ true) where
  pub lock_keeps : (who : ℕ) (s : LockString) → w who ≡ true → (who ≡ 0xFF → ⊥) → length s.bytes ≡ 13 → sound_rows n w (lock_table t who s) ≡ true
  lock_keeps who s inside ne long = go (lock_status t who s) (lock_table t who s) (lock_case (good_is n w t h) who s)
    where
      go : (r : ℕ) (t' : List ℕ) → LockCase t who s r t' → sound_rows n w t' ≡ true
      go r t' (illegal l) = h
      go r t' (own l o) = h
      go r t' (other l o b) = h
      go r t' (full l b f) = h
      go r t' (granted l b f) = is_good n w (lock_table t who s) (fills_keep (lock_fills t who s long l b f)
          (good_row_of w who s long ne inside l)
          (λ x p. sym (held_same t s x (sym (holds_row_of who s long ne x) ∙ p)) ∙ b)
          (good_is n w t h))

  pub unlock_keeps : (who : ℕ) (s : LockString) → sound_rows n w (unlock_table t who s) ≡ true
  unlock_keeps who s = is_good n w _ (frees_keep (unlock_frees t who s) (good_is n w t h))

  pub clear_keeps : (who : ℕ) → sound_rows n w (cleared_table t who) ≡ true
  clear_keeps who = is_good n w _ (frees_keep (clear_frees t who) (good_is n w t h))

  -- beside other records, in which everybody who holds a string is logged in
  pub records_keep : (w' : ℕ → Bool) → ((a : ℕ) (x : LockString) → has t a x ≡ true → w' a ≡ true) → sound_rows n w' t ≡ true
  records_keep w' inside = let g = good_is n w t h in is_good n w' t (record {
    sized = g.sized;
    each = λ i l. good_beside w (row 16 t i) w' (g.each i l) (λ u.
        let s = string_of (row 16 t i) in
        inside (owner (row 16 t i)) s (row_has t _ s i (omega (arith, g.sized)) (record {
          held = is_holds lock_rows s _ (record { used = u; string = same_string_refl s });
          owned = refl;
        })));
    one_row = g.one_row;
  })

  -- after a login everybody who was logged in still is
  pub login_keeps : (w' : ℕ → Bool) → ((a : ℕ) → w a ≡ true → w' a ≡ true) → sound_rows n w' t ≡ true
  login_keeps w' stays = records_keep w' (λ a x p. stays a (held_in (good_is n w t h) a x p))

-- after a logout everybody else still is, and the sender's rows are free
pub logout_keeps : (n : ℕ) (w : ℕ → Bool) (t : List ℕ) → sound_rows n w t ≡ true → (who : ℕ) (w' : ℕ → Bool) → ((a : ℕ) → (a ≡ who → ⊥) → w a ≡ true → w' a ≡ true) → sound_rows n w' (cleared_table t who) ≡ true
logout_keeps n w t h who w' stay = records_keep n w (cleared_table t who) (clear_keeps n w t h who) w' (λ a x p.
    let b : (has t a x && not (eqb a who)) ≡ true = sym (has_cleared t who a x) ∙ p in
    stay a (eqb-false a who (not-true _ (and_right (has t a x) (not (eqb a who)) b))) (held_in (good_is n w t h) a x (and_left (has t a x) (not (eqb a who)) b)))

-- free rows alone
module _ (n : ℕ) where
  free_row_lem : (i : ℕ) → i < n → row 16 (copies n free_row) i ≡ free_row
  free_row_lem i l = row_copies 16 free_row refl n i l

  pub free_rows_good : (w : ℕ → Bool) → sound_rows n w (copies n free_row) ≡ true
  free_rows_good w = is_good n w _ (record {
    sized = length_copies n free_row;
    each = λ i l. rw (free_row_lem i l) (free_good w);
    one_row = λ x i j l m p q. both (rw (free_row_lem i l) at p) (free_holds lock_rows x free_row free_free);
  })

-- the fresh table is good, whoever is logged in
pub fresh_good : (w : ℕ → Bool) → sound_rows locks w fresh_locks ≡ true
unfolding fresh_locks
fresh_good w = free_rows_good locks w
