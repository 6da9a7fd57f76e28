-- A good state stays good, and what each step does to its list and its wait.
use Prim.Native.Nat.{ℕ, ◌*◌, ◌<◌}
use native.Mathlib.Omega.{arith}
use mathlib.Core.Path.{◌≡◌, refl, sym, ◌∙◌}
use mathlib.Core.Bool.{true, false, cond, not, ◌&&◌, ◌||◌, or-false}
use mathlib.Core.List.{List, ◌++◌}
use lib.Dec.{eqb}
use lib.ListN.{length, replicate, length-append}
use borrow.Author.Tests.{not-true, not-false}
use Rattle.rows.specs.Rows.{row}
use Rattle.rows.specs.Words.{all, zeros, zero_at}
use Rattle.rows.proofs.BoolLaws.{by_test, by_eq, both, and_left, and_right}
use Rattle.terms.specs.declared.LockString.{LockString}
use Rattle.terms.specs.Strings.{legal, same_string}
use Rattle.terms.specs.Tables.{is_free, holds, row_in, row_free, row_holds}
use Rattle.terms.proofs.StringLaws.{same_string_normal}
use Rattle.frames.specs.Table.{LOCK, UNLOCK}
use Rattle.station.specs.State.{list_of, wait_of, places, unused, listed_at, is_listed, place_of, listed, added, code_in, asked_in, nothing}
use Rattle.station.specs.Good.{good_place, limit, good_state}
use Rattle.station.specs.Asks.{struck, awaited, awaited_clear, after_lock, after_unlock, after_clear, fresh_state}
use Rattle.station.specs.Replies.{grants, carries_length, adds, reply_refusal, after_reply}
use Rattle.station.proofs.Cases.{Taken, taken}
use Rattle.station.proofs.PlaceLaws.{placed, placed_string, placed_used, placed_good}
use Rattle.station.proofs.GoodLaws.{Good, good_is, is_good}
use Rattle.station.proofs.ListLaws.{row_past, Adds, added_adds, stood, stood_inside, stood_ordered, stood_one, Strikes, struck_strikes}
use Rattle.station.proofs.StateLaws.{state_is, is_state, list_long, wait_long, list_of_lem, wait_of_lem}
use Rattle.station.proofs.WaitLaws.{asked_full, locking, unlocking, clearing, WaitCase, idle, waiting, case_good, case_long}
use Rattle.station.proofs.ListedLaws.{listed_added, listed_place, place_listed, listed_same, below_used, within, counted, struck_stood, zeros_list}

-- a new legal string in the first unused place
module _ {n : ℕ} {l l' : List ℕ} (x : LockString) (full : length x.bytes ≡ 13) (lawful : legal x ≡ true) (new : is_listed l x ≡ false) (a : Adds n (listed l) (placed x) l l') (g : Good n l) where
  here_used : unused l' (listed l) ≡ false
  unfolding row_in row_free is_free
  here_used = rw a.here (placed_used x full lawful)

  there_unused : (i : ℕ) → (i ≡ listed l → ⊥) → unused l' i ≡ unused l i
  unfolding row_in row_free
  there_unused i ne = rw (a.there i ne)

  clash : (y : LockString) (i j : ℕ) → i ≡ listed l → (j ≡ listed l → ⊥) → j < n → listed_at l' y i ≡ true → listed_at l' y j ≡ true → ⊥
  unfolding row_in row_holds holds is_free
  clash y i j e ne b p q =
      let same : same_string x y ≡ true = sym (same_string_normal x full y) ∙ (rw (e, a.here, placed_used x full lawful, placed_string x full) at p) in
      both (listed_same l x y same ∙ place_listed l y j (counted g b) (rw (a.there j ne) at q)) new

  adds_keep : Good n l'
  unfolding row_in row_holds
  adds_keep = record {
    sized = a.long ∙ g.sized;
    each = λ i b. by_eq i (listed l) (λ (e : i ≡ listed l). rw (e, a.here) (placed_good x full lawful)) (λ ne. rw (a.there i ne) (g.each i b));
    one_place = λ y i j b m p q. by_eq i (listed l)
        (λ e. by_eq j (listed l) (λ d. e ∙ sym d) (λ nd. absurd (clash y i j e nd m p q)))
        (λ ne. by_eq j (listed l)
        (λ d. absurd (clash y j i d ne b q p))
        (λ nd. g.one_place y i j b m (rw (a.there i ne) at p) (rw (a.there j nd) at q)));
    used_first = λ i j u h b. by_eq i (listed l)
        (λ (e : i ≡ listed l). both (rw e at u) here_used)
        (λ ne. by_eq j (listed l)
        (λ d. both (sym (there_unused i ne) ∙ u) (below_used l i (omega arith)))
        (λ nd. there_unused j nd ∙ g.used_first i j (sym (there_unused i ne) ∙ u) h b));
  }

-- a place struck
module _ {n k : ℕ} {l l' : List ℕ} (g : Good n l) (s : Strikes n k l l') where
  unused_stood : (j : ℕ) → j < n → unused l' j ≡ unused l (stood k j)
  unfolding row_in row_free is_free
  unused_stood j b = s.rows (is_free places) refl j b

  past_unused : unused l n ≡ true
  unfolding row_in row_free is_free
  past_unused = rw (row_past n l g.sized)

  past_good : good_place (row 14 l n) ≡ true
  unfolding good_place is_free zeros all
  past_good = rw (row_past n l g.sized)

  good_stood : (j : ℕ) → j < n → good_place (row 14 l' j) ≡ good_place (row 14 l (stood k j))
  unfolding good_place is_free zeros zero_at all
  good_stood j b = s.rows good_place refl j b

  strikes_keep : Good n l'
  unfolding row_in row_holds
  strikes_keep = record {
    sized = s.long ∙ g.sized;
    each = λ j b. good_stood j b ∙ by_eq (stood k j) n (λ (e : stood k j ≡ n). rw e past_good) (λ ne. g.each (stood k j) (omega (arith, stood_inside k n j b)));
    one_place = λ y i j b m p q.
        let u = struck_stood g s y i b p in
        let v = struck_stood g s y j m q in
        stood_one k i j (g.one_place y (stood k i) (stood k j) u.0 v.0 u.1 v.1);
    used_first = λ i j u h b.
        let before : unused l (stood k i) ≡ true = sym (unused_stood i (omega arith)) ∙ u in
        unused_stood j b
        ∙ by_eq (stood k j) n
        (λ (e : stood k j ≡ n). rw e past_unused)
        (λ ne. g.used_first (stood k i) (stood k j) before (stood_ordered k i j h) (omega (arith, stood_inside k n j b)));
  }

module _ {n : ℕ} {l : List ℕ} (g : Good n l) where
  pub added_good : (x : LockString) → length x.bytes ≡ 13 → legal x ≡ true → is_listed l x ≡ false → listed l < n → Good n (added l x)
  added_good x full lawful new h = adds_keep x full lawful new (added_adds n l x g.sized full h) g

  pub struck_good : (x : LockString) → Good n (struck l x)
  unfolding struck
  struck_good x = by_test (legal x && is_listed l x)
      (λ t.
      let p = listed_place l x (and_right (legal x) (is_listed l x) t) in
      rw t (strikes_keep g (struck_strikes n (place_of l x) l g.sized (within g p.0))))
      (λ f. rw f g)

-- a good state has a good list, and a good list before a wait is a good state
pub list_good : (st : List ℕ) → good_state st ≡ true → Good limit (list_of st)
list_good st h = let g = state_is st h in good_is limit (list_of st) (list_long st ∙ omega (arith, g.sized)) g.list

module _ (l v : List ℕ) (g : Good limit l) (w : WaitCase v) where
  pub made_good : good_state (l ++ v) ≡ true
  made_good = is_state (l ++ v) (record {
    sized = length-append l v ∙ omega (arith, g.sized, case_long w);
    list = rw (list_of_lem l v (case_long w)) (is_good limit l g);
    wait = rw (wait_of_lem l v (case_long w)) (case_good w);
  })

-- fresh: the list is empty
pub fresh_good : good_state fresh_state ≡ true
unfolding fresh_state
fresh_good = made_good (replicate (14 * limit) 0) nothing (zeros_list limit) idle

pub fresh_list : list_of fresh_state ≡ replicate (14 * limit) 0
unfolding fresh_state
fresh_list = list_of_lem (replicate (14 * limit) 0) nothing refl

pub fresh_wait : wait_of fresh_state ≡ nothing
unfolding fresh_state
fresh_wait = wait_of_lem (replicate (14 * limit) 0) nothing refl

-- after a clear it is empty too
module _ (st : List ℕ) where
  pub clear_good : good_state st ≡ true → good_state (after_clear st) ≡ true
  unfolding after_clear
  clear_good h = made_good (replicate (length (list_of st)) 0) awaited_clear (rw (list_good st h).sized (zeros_list limit)) (waiting clearing)

  pub clear_list : list_of (after_clear st) ≡ replicate (length (list_of st)) 0
  unfolding after_clear
  clear_list = list_of_lem (replicate (length (list_of st)) 0) awaited_clear refl

  pub clear_wait : wait_of (after_clear st) ≡ awaited_clear
  unfolding after_clear
  clear_wait = wait_of_lem (replicate (length (list_of st)) 0) awaited_clear refl

-- a lock and an unlock that are asked
module _ (st : List ℕ) (x : LockString) (full : length x.bytes ≡ 13) where
  pub lock_good : good_state st ≡ true → good_state (after_lock st x) ≡ true
  unfolding after_lock
  lock_good h = made_good (list_of st) (awaited LOCK x) (list_good st h) (waiting (locking x full))

  pub lock_list : list_of (after_lock st x) ≡ list_of st
  unfolding after_lock
  lock_list = list_of_lem (list_of st) (awaited LOCK x) (case_long (waiting (locking x full)))

  pub lock_wait : wait_of (after_lock st x) ≡ awaited LOCK x
  unfolding after_lock
  lock_wait = wait_of_lem (list_of st) (awaited LOCK x) (case_long (waiting (locking x full)))

  pub unlock_good : good_state st ≡ true → good_state (after_unlock st x) ≡ true
  unfolding after_unlock
  unlock_good h = made_good (struck (list_of st) x) (awaited UNLOCK x) (struck_good (list_good st h) x) (waiting (unlocking x full))

  pub unlock_list : list_of (after_unlock st x) ≡ struck (list_of st) x
  unfolding after_unlock
  unlock_list = list_of_lem (struck (list_of st) x) (awaited UNLOCK x) (case_long (waiting (unlocking x full)))

  pub unlock_wait : wait_of (after_unlock st x) ≡ awaited UNLOCK x
  unfolding after_unlock
  unlock_wait = wait_of_lem (struck (list_of st) x) (awaited UNLOCK x) (case_long (waiting (unlocking x full)))

-- a reply that is not refused
module _ (st : List ℕ) (b : ℕ) (z : reply_refusal st b ≡ 0) where
  t : Taken st b
  t = taken st b z

  before : Good limit (list_of st)
  before = list_good st t.good

  x : LockString
  x = asked_in (wait_of st)

  full : length x.bytes ≡ 13
  unfolding x
  full = asked_full (wait_of st) (wait_long st (omega (arith, (state_is st t.good).sized)))

  -- where the reply adds the string, it is one of a lock, granted, legal and new
  record New : Type 0 where
    lawful : legal x ≡ true
    unlisted : is_listed (list_of st) x ≡ false

  new : adds (list_of st) (wait_of st) b ≡ true → New
  unfolding adds carries_length x
  new a =
      let lock = eqb (code_in (wait_of st)) LOCK in
      let missing = not (is_listed (list_of st) x) in
      let a₁ = and_right lock (grants b && missing) a in record {
        lawful = t.lawful (and_left (grants b) missing a₁) (rw (and_left lock (grants b && missing) a));
        unlisted = not-true _ (and_right (grants b) missing a₁);
      }

  after : List ℕ
  after = cond (adds (list_of st) (wait_of st) b) (added (list_of st) (asked_in (wait_of st))) (list_of st)

  after_good : Good limit after
  unfolding after x
  after_good = by_test (adds (list_of st) (wait_of st) b)
      (λ a. rw a (added_good before x full (new a).lawful (new a).unlisted (within before (t.room a))))
      (λ m. rw m before)

  pub reply_good : good_state (after_reply st b) ≡ true
  unfolding after_reply after
  reply_good = made_good after nothing after_good idle

  pub reply_list : list_of (after_reply st b) ≡ cond (adds (list_of st) (wait_of st) b) (added (list_of st) (asked_in (wait_of st))) (list_of st)
  unfolding after_reply after
  reply_list = list_of_lem after nothing refl

  pub reply_wait : wait_of (after_reply st b) ≡ nothing
  unfolding after_reply after
  reply_wait = wait_of_lem after nothing refl

  -- 00 or 81 to a lock lists the string; any other reply lists nothing, and none takes anything away
  pub listed_replied : (y : LockString) → is_listed (list_of (after_reply st b)) y ≡ (is_listed (list_of st) y || (eqb (code_in (wait_of st)) LOCK && (grants b && same_string (asked_in (wait_of st)) y)))
  unfolding adds x
  listed_replied y =
      let l = list_of st in
      let lock = eqb (code_in (wait_of st)) LOCK in
      let missing = not (is_listed l x) in
      rw reply_list (by_test (adds l (wait_of st) b)
      (λ a.
      let a₁ = and_right lock (grants b && missing) a in
      rw (a, and_left lock (grants b && missing) a, and_left (grants b) missing a₁) (listed_added before x (new a).lawful full (within before (t.room a)) y))
      (λ m. rw m (by_test (lock && (grants b && same_string x y))
      (λ s.
      let s₁ = and_right lock (grants b && same_string x y) s in
      let known : is_listed l x ≡ true = not-false _ (rw (and_left lock (grants b && same_string x y) s, and_left (grants b) (same_string x y) s₁) at m) in
      rw (s, sym (listed_same l x y (and_right (grants b) (same_string x y) s₁)) ∙ known))
      (λ n. rw n (sym (or-false (is_listed l y)))))))
