-- What holds of a station beside the tables at any moment, and that its own steps keep it.
use Prim.Native.Nat.{ℕ, ◌≤◌}
use native.Mathlib.Omega.{arith}
use mathlib.Core.Path.{◌≡◌, sym, subst, ◌∙◌}
use mathlib.Core.Bool.{true, false, cond, not, ◌&&◌, and-true, and-false}
use mathlib.Core.List.{List}
use lib.Dec.{eqb}
use lib.ListN.{length}
use borrow.Author.Tests.{eqb-true, ne_eqb, not-true, lt-leb}
use Rattle.rows.proofs.BoolLaws.{by_test, by_eq, and_left, and_right}
use Rattle.terms.specs.declared.LockString.{LockString}
use Rattle.terms.specs.Strings.{legal, same_string}
use Rattle.terms.proofs.StringLaws.{legal_same, same_string_refl}
use Rattle.frames.specs.Table.{LOCK, UNLOCK}
use Rattle.who.specs.Logins.{logged_in}
use Rattle.locks.specs.Table.{row_count}
use Rattle.locks.specs.Holding.{has}
use Rattle.station.specs.State.{list_of, wait_of, place_count, is_listed, listed, is_full, code_in, asked_in}
use Rattle.station.specs.Good.{limit, good_state}
use Rattle.station.specs.Asks.{waits, ask_refusal, struck, awaited, after_lock, after_unlock, after_clear, Asks}
use Rattle.station.specs.Replies.{grants, carries_length, adds, reply_refusal, after_reply}
use Rattle.station.proofs.ListedLaws.{listed_legal, listed_struck, listed_none}
use Rattle.station.proofs.GoodLaws as station_laws
use Rattle.station.proofs.Keeps as keeps
use Rattle.exchange.proofs.Settling.{pending, locking, Settles, unlock_pending}
use Rattle.exchange.proofs.Agreement.{Agrees, agree_same, same_agrees, asked_agrees, lost_agrees, replied_same}
use Rattle.exchange.proofs.Counting.{list_fits}

-- k is logged in, the state is good, and both agree
pub record Inv (k : ℕ) (t w st : List ℕ) : Type 0 where
  pub inside : logged_in w k ≡ true
  pub state_good : good_state st ≡ true
  pub agrees : Agrees k t (list_of st) (wait_of st)

-- the station's own steps
module _ (k : ℕ) (t w st : List ℕ) (i : Inv k t w st) where
  listing : station_laws.Good limit (list_of st)
  listing = keeps.list_good st i.state_good

  -- a step that leaves another state, whose list and wait are known
  steps : (st' l v : List ℕ) → good_state st' ≡ true → list_of st' ≡ l → wait_of st' ≡ v → Agrees k t l v → Inv k t w st'
  steps st' l v good el ev a = record { inside = i.inside; state_good = good; agrees = rw (el, ev) a }

  -- an ask: refused and nothing changes, or asked while waiting for nothing
  pub asks : (after st' : List ℕ) (r : ℕ) → Asks st after r st' → (((y : LockString) → is_listed (list_of st) y ≡ has t k y) → Inv k t w after) → Inv k t w st'
  asks after st' r a next = by_eq (ask_refusal st) 0
      (λ z. subst (Inv k t w) (sym (a.left ∙ rw z)) (next (agree_same i.agrees (quiet_now z))))
      (λ ne. subst (Inv k t w) (sym (a.left ∙ rw (ne_eqb (ask_refusal st) 0 ne))) i)
    where
      quiet_now : ask_refusal st ≡ 0 → code_in (wait_of st) ≡ 0
      quiet_now z = eqb-true _ _ (idle_code (unfold ask_refusal in rw i.state_good at z))
        where
          idle_code : ◌≡◌ {A = ℕ} (cond (waits st) 14 0) 0 → eqb (code_in (wait_of st)) 0 ≡ true
          idle_code e = unfold waits in by_test (eqb (code_in (wait_of st)) 0) (λ y. y) (λ m. let lie : ◌≡◌ {A = ℕ} 14 0 = unfold waits in rw m at e in absurd (omega arith))

  pub lock_asked : (x : LockString) → length x.bytes ≡ 13 → ((y : LockString) → is_listed (list_of st) y ≡ has t k y) → Inv k t w (after_lock st x)
  unfolding locking code_in awaited
  lock_asked x long e = steps _ _ _ (keeps.lock_good st x long i.state_good) (keeps.lock_list st x long) (keeps.lock_wait st x long)
      (asked_agrees (list_of st) e (λ y. sym (and-true (is_listed (list_of st) y))))

  -- of what is listed, an unlock strikes what it waits for
  struck_asked : (x y : LockString) → length x.bytes ≡ 13 → is_listed (struck (list_of st) x) y ≡ (is_listed (list_of st) y && not (not (locking (awaited UNLOCK x)) && pending (awaited UNLOCK x) y))
  unfolding locking code_in awaited
  struck_asked x y long = rw (unlock_pending x long y, listed_struck listing x y) (by_test (is_listed (list_of st) y)
      (λ h. rw h (by_test (same_string x y)
      (λ e. rw (e, legal_same x y e ∙ listed_legal listing y h))
      (λ n. rw (n, and-false (legal x)))))
      (λ n. rw n))

  pub unlock_asked : (x : LockString) → length x.bytes ≡ 13 → ((y : LockString) → is_listed (list_of st) y ≡ has t k y) → Inv k t w (after_unlock st x)
  unlock_asked x long e = steps _ _ _ (keeps.unlock_good st x long i.state_good) (keeps.unlock_list st x long) (keeps.unlock_wait st x long)
      (asked_agrees (list_of st) e (λ y. struck_asked x y long))

  pub clear_asked : ((y : LockString) → is_listed (list_of st) y ≡ has t k y) → Inv k t w (after_clear st)
  unfolding locking pending code_in
  clear_asked e = steps _ _ _ (keeps.clear_good st i.state_good) (keeps.clear_list st) (keeps.clear_wait st)
      (asked_agrees (list_of st) e (λ y. listed_none (length (list_of st)) y ∙ sym (and-false (is_listed (list_of st) y))))

  -- a reply that the master gave is never refused
  module _ (t' : List ℕ) (b : ℕ) (sized : row_count t' ≤ limit) (s : Settles k t t' (wait_of st) b) where
    x : LockString
    x = asked_in (wait_of st)

    x_held : locking (wait_of st) ≡ true → grants b ≡ true → has t' k x ≡ true
    x_held c g = s.settled x asked ∙ rw (c, g)
      where
        asked : pending (wait_of st) x ≡ true
        asked = unfold pending locking x in rw (eqb-true (code_in (wait_of st)) LOCK c) (same_string_refl (asked_in (wait_of st)))

    -- the list and the new string are held, and so there is a place for it
    room : adds (list_of st) (wait_of st) b ≡ true → is_full (list_of st) ≡ false
    unfolding adds is_full x locking
    room a =
        let missing = not (is_listed (list_of st) x) in
        let c = and_left (eqb (code_in (wait_of st)) LOCK) (grants b && missing) a in
        let m = and_right (eqb (code_in (wait_of st)) LOCK) (grants b && missing) a in
        let fits_in = list_fits listing t' k x (lost_agrees i.agrees s).in_master (x_held c (and_left (grants b) missing m)) (not-true _ (and_right (grants b) missing m)) in
        lt-leb (place_count (list_of st)) (listed (list_of st)) (omega (arith, fits_in, sized, listing.sized))

    pub reply_taken : reply_refusal st b ≡ 0
    unfolding reply_refusal
    reply_taken = rw (i.state_good, s.listed, lawful_grant, fits_in)
      where
        lawful_grant : (grants b && (carries_length (code_in (wait_of st)) && not (legal (asked_in (wait_of st))))) ≡ false
        lawful_grant = by_test (grants b)
            (λ g. rw g (by_test (carries_length (code_in (wait_of st))) (λ c. rw (c, s.lawful g c)) (λ n. rw n)))
            (λ n. rw n)

        fits_in : (adds (list_of st) (wait_of st) b && is_full (list_of st)) ≡ false
        fits_in = by_test (adds (list_of st) (wait_of st) b) (λ a. rw (a, room a)) (λ n. rw n)

    pub reply_inv : Inv k t' w (after_reply st b)
    unfolding locking code_in
    reply_inv = record {
      inside = i.inside;
      state_good = keeps.reply_good st b reply_taken;
      agrees = same_agrees (λ y. keeps.listed_replied st b reply_taken y ∙ replied_same i.agrees s y) (rw (keeps.reply_wait st b reply_taken));
    }
