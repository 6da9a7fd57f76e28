-- What a station's own exchange settles at the master: what it waits for is held or not as the status says, and all else stays.
use Prim.Native.Nat.{ℕ, ◌≤◌}
use native.Mathlib.Omega.{arith}
use mathlib.Core.Path.{◌≡◌, refl, sym, ap, ◌∙◌}
use mathlib.Core.Bool.{Bool, true, false, cond, ◌&&◌, ◌||◌, and-true, and-false, or-false}
use mathlib.Core.List.{List, [], ◌∷◌}
use lib.Dec.{eqb}
use lib.ListN.{length}
use borrow.Author.Tests.{eq-eqb}
use Rattle.rows.proofs.BoolLaws.{both, contra, refuted}
use Rattle.terms.specs.declared.LockString.{LockString}
use Rattle.terms.specs.Strings.{legal, same_string}
use Rattle.frames.specs.declared.Command.{Command}
use Rattle.frames.specs.Table.{LOCK, UNLOCK, CLEAR, frame_table, length_in, frame_length, carries_address}
use Rattle.site.specs.Rules.{good_site}
use Rattle.who.specs.Logins.{logged_in}
use Rattle.locks.specs.Table.{unlocks, lock_status, lock_table, unlock_status, unlock_table, cleared_table}
use Rattle.locks.specs.Holding.{has}
use Rattle.locks.proofs.GoodLaws as table_laws
use Rattle.locks.proofs.HoldingLaws.{has_held, has_same, held_legal, LockCase, illegal, own, other, full, granted, lock_case, has_granted, UnlockCase, unlocked, refused, unlock_case, has_unlocked, unlocked_gone, has_cleared}
use Rattle.master.specs.Tables.{good_tables}
use Rattle.master.specs.Refusals.{refusal}
use Rattle.master.specs.Answers.{Told, answers, refusal_number, status_byte}
use Rattle.station.specs.State.{wait_of, code_in, asked_in, nothing}
use Rattle.station.specs.Good.{good_state}
use Rattle.station.specs.Asks.{waits, awaited, awaited_clear, frame_awaited}
use Rattle.station.specs.Replies.{fits, grants, carries_length}
use Rattle.station.proofs.WaitLaws.{Awaits, unlocking, clearing, WaitCase, idle, waiting, asked_back, state_wait, state_awaits}
use Rattle.station.proofs.WaitLaws
use Rattle.exchange.specs.Following.{sent}
use Rattle.exchange.proofs.OwnFrames.{Sending, whole, none, sending, sent_whole, Serving, served, Commands, serving, told_status, own_lock, own_unlock, own_clear, not_refused, Refused, refuses_with, empty_refused}
use Rattle.exchange.proofs.OwnFrames
use Rattle.master.specs.Effects.{Effect, telling}
use Rattle.master.specs.Frames.{frame_effect}

-- what a station waits for: the string asked for; after a clear every string; else nothing
unfoldable pub pending : List ℕ → LockString → Bool
pending v y = cond (eqb (code_in v) 0) false (cond (eqb (code_in v) CLEAR) true (same_string (asked_in v) y))

unfoldable pub locking : List ℕ → Bool
locking v = eqb (code_in v) LOCK

-- the master served the frame awaited and answered b: the lock table was t and is t'
pub record Settles (k : ℕ) (t t' v : List ℕ) (b : ℕ) : Type 0 where
  pub stays : (y : LockString) → pending v y ≡ false → has t' k y ≡ has t k y
  pub settled : (y : LockString) → pending v y ≡ true → has t' k y ≡ (locking v && grants b)
  pub keeps : locking v ≡ true → (y : LockString) → has t k y ≡ true → has t' k y ≡ true
  pub listed : fits (code_in v) b ≡ true
  pub lawful : grants b ≡ true → carries_length (code_in v) ≡ true → legal (asked_in v) ≡ true

-- the string asked for by a lock and an unlock
module _ (x : LockString) (long : length x.bytes ≡ 13) (y : LockString) where
  lock_pending : pending (awaited LOCK x) y ≡ same_string x y
  unfolding pending code_in awaited
  lock_pending = ap (λ (z : LockString). same_string z y) (asked_back LOCK x long)

  pub unlock_pending : pending (awaited UNLOCK x) y ≡ same_string x y
  unfolding pending code_in awaited
  unlock_pending = ap (λ (z : LockString). same_string z y) (asked_back UNLOCK x long)

module _ {n : ℕ} {w : ℕ → Bool} {t : List ℕ} (g : table_laws.Good n w t) (k : ℕ) (x : LockString) (long : length x.bytes ≡ 13) where
  -- a string that is not the sender's is none's that is the same
  lacks : has t k x ≡ false → (y : LockString) → same_string x y ≡ true → has t k y ≡ false
  lacks e y s = sym (has_same t k x y s) ∙ e

  lock_settled : (k ≡ 0xFF → ⊥) → (b : ℕ) (t' : List ℕ) → LockCase t k x b t' → Settles k t t' (awaited LOCK x) b
  unfolding locking code_in awaited fits grants carries_length
  lock_settled nf b t' (illegal l) = record {
    stays = λ y p. refl;
    settled = λ y p. lacks (sym (refuted (has t k x) (λ h. both (held_legal g k x h) l))) y (sym (lock_pending x long y) ∙ p);
    keeps = λ _ y h. h;
    listed = refl;
    lawful = λ a c. both a refl;
  }
  lock_settled nf b t' (own l h) = record {
    stays = λ y p. refl;
    settled = λ y p. sym (has_same t k x y (sym (lock_pending x long y) ∙ p)) ∙ h;
    keeps = λ _ y q. q;
    listed = refl;
    lawful = λ a c. rw (asked_back LOCK x long) l;
  }
  lock_settled nf b t' (other l e h) = record {
    stays = λ y p. refl;
    settled = λ y p. lacks e y (sym (lock_pending x long y) ∙ p);
    keeps = λ _ y q. q;
    listed = refl;
    lawful = λ a c. both a refl;
  }
  lock_settled nf b t' (full l e f) = record {
    stays = λ y p. refl;
    settled = λ y p. lacks (contra (has t k x) _ (has_held t x k) e) y (sym (lock_pending x long y) ∙ p);
    keeps = λ _ y q. q;
    listed = refl;
    lawful = λ a c. both a refl;
  }
  lock_settled nf b t' (granted l e f) =
      let now : (y : LockString) → has (lock_table t k x) k y ≡ (has t k y || same_string x y) = λ y. has_granted t k x l e f long nf k y ∙ rw (eq-eqb k k refl) in record {
        stays = λ y p. now y ∙ rw (sym (lock_pending x long y) ∙ p) (or-false (has t k y));
        settled = λ y p. now y ∙ rw (sym (lock_pending x long y) ∙ p) (or_true (has t k y));
        keeps = λ _ y h. now y ∙ rw h;
        listed = refl;
        lawful = λ a c. rw (asked_back LOCK x long) l;
      }
    where
      or_true : (a : Bool) → (a || true) ≡ true
      or_true true = refl
      or_true false = refl

  unlock_settled : (b : ℕ) (t' : List ℕ) → UnlockCase t k x b t' → Settles k t t' (awaited UNLOCK x) b
  unfolding locking code_in awaited fits grants carries_length
  unlock_settled b t' (unlocked l h) = record {
    stays = λ y p.
        has_unlocked g k x k y ∙ rw (sym (unlock_pending x long y) ∙ p, eq-eqb k k refl) (rw (and-false (unlocks t k x)) (and-true (has t k y)));
    settled = λ y p. sym (has_same (unlock_table t k x) k x y (sym (unlock_pending x long y) ∙ p)) ∙ unlocked_gone g k x;
    keeps = λ f y q. both f refl;
    listed = refl;
    lawful = λ a c. rw (asked_back UNLOCK x long) l;
  }
  unlock_settled b t' (refused e) = record {
    stays = λ y p. refl;
    settled = λ y p. lacks (sym (refuted (has t k x) (λ h. both h (rw (held_legal g k x h) at e)))) y (sym (unlock_pending x long y) ∙ p);
    keeps = λ f y q. both f refl;
    listed = refl;
    lawful = λ a c. both a refl;
  }

clear_settled : (k : ℕ) (t : List ℕ) → Settles k t (cleared_table t k) awaited_clear 0x00
unfolding pending locking code_in fits grants carries_length
clear_settled k t = record {
  stays = λ y p. both refl p;
  settled = λ y p. has_cleared t k k y ∙ rw (eq-eqb k k refl) (and-false (has t k y));
  keeps = λ f y q. both f refl;
  listed = refl;
  lawful = λ a c. both c refl;
}

-- one own exchange: refused and nothing changes, or served and settled
pub data Exchange (k : ℕ) (t w v : List ℕ) : Effect (List ℕ) → Type 0 where
  unserved : (a : Told) → (refusal_number a ≡ 0 → ⊥) → Exchange k t w v (telling a t w)
  settles : (b : ℕ) (t' : List ℕ) → Settles k t t' v b → Exchange k t w v (telling (answers (status_byte b)) t' w)

exchanged : {k : ℕ} {t w v : List ℕ} {b : ℕ} {t₁ : List ℕ} {d : Effect (List ℕ)} → Serving t w b t₁ d → Settles k t t₁ v b → Exchange k t w v d
exchanged (OwnFrames.Serving.refused a ne) s = unserved a ne
exchanged {b = b} {t₁ = t₁} served s = settles b t₁ s

module _ {n : ℕ} (w : List ℕ) {t : List ℕ} (g : table_laws.Good n (logged_in w) t) (k : ℕ) (nf : k ≡ 0xFF → ⊥) (s : List ℕ) where
  abbrev Exchanges : List ℕ → List ℕ → Type 0
  Exchanges v f = Exchange k t w v (frame_effect k f s t w)

  none_sent : (v : List ℕ) → Exchanges v []
  none_sent v = go (empty_refused k s t w)
    where
      go : {d : Effect (List ℕ)} → Refused t w d → Exchange k t w v d
      go (refuses_with a ne) = unserved a ne

  -- what the frame awaited does where it is served
  record Due (v : List ℕ) : Type 0 where
    status : ℕ
    table : List ℕ
    commands : Commands k (frame_awaited v) s t w status table
    settling : Settles k t table v status

  due : {v : List ℕ} {c : Command} {x : LockString} → Awaits v c x → Due v
  unfolding frame_awaited code_in awaited
  due (WaitLaws.Awaits.locking x long) = record {
    status = lock_status t k x;
    table = lock_table t k x;
    commands = rw (asked_back LOCK x long) at (own_lock k (awaited LOCK x) s t w refl);
    settling = lock_settled g k x long nf _ _ (lock_case g k x);
  }
  due (unlocking x long) = record {
    status = unlock_status t k x;
    table = unlock_table t k x;
    commands = rw (asked_back UNLOCK x long) at (own_unlock k (awaited UNLOCK x) s t w refl);
    settling = unlock_settled g k x long _ _ (unlock_case g k x);
  }
  due clearing = record { status = 0x00; table = cleared_table t k; commands = own_clear k (CLEAR ∷ []) s t w refl; settling = clear_settled k t }

  whole_sent : {v : List ℕ} → WaitCase v → Exchanges v (frame_awaited v)
  unfolding frame_awaited code_in
  whole_sent idle = none_sent nothing
  whole_sent {v} (waiting a) = let d = due a in exchanged (serving k (frame_awaited v) s t w d.commands) d.settling

  pub own_exchange : (st b : List ℕ) → good_state st ≡ true → Exchanges (wait_of st) (sent st b)
  own_exchange st b good = go (sending st b)
    where
      go : {f : List ℕ} → Sending st b f → Exchanges (wait_of st) f
      go whole = whole_sent (state_wait st good)
      go none = none_sent (wait_of st)

  -- with good tables and a good site file the frame awaited is answered
  waited_refusal : good_tables t w ≡ true → good_site s ≡ true → logged_in w k ≡ true → {v : List ℕ} {c : Command} {x : LockString} → Awaits v c x → (length (frame_awaited v) ≤ 15) × (refusal k (frame_awaited v) s t w ≡ 0)
  unfolding frame_awaited code_in awaited frame_length length_in frame_table carries_address
  waited_refusal good site in-now (WaitLaws.Awaits.locking x long) = (omega (arith, long), not_refused k (awaited LOCK x) s t w good site in-now LOCK refl (rw long) refl refl refl refl)
  waited_refusal good site in-now (unlocking x long) = (omega (arith, long), not_refused k (awaited UNLOCK x) s t w good site in-now UNLOCK refl (rw long) refl refl refl refl)
  waited_refusal good site in-now clearing = (omega arith, not_refused k (CLEAR ∷ []) s t w good site in-now CLEAR refl refl refl refl refl refl)

  pub own_answer : good_tables t w ≡ true → good_site s ≡ true → logged_in w k ≡ true → (st b : List ℕ) → good_state st ≡ true → waits st ≡ true → 15 ≤ length b → (status : ℕ) × ((frame_effect k (sent st b) s t w).tells ≡ answers (status_byte status))
  own_answer good site in-now st b sg waiting-now long =
      let a = state_awaits st sg waiting-now in
      let d = due a in
      let r = waited_refusal good site in-now a in
      (d.status, rw (sent_whole st b sg (omega (arith, r.0, long))) (told_status k (frame_awaited (wait_of st)) s t w d.commands r.1))
