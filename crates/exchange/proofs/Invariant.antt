-- What holds of a station that follows the rules at every moment of a run.
use Prim.Native.Nat.{ℕ, ◌*◌, ◌≤◌}
use native.Mathlib.Omega.{arith}
use mathlib.Core.Path.{◌≡◌, refl, sym, ap, subst, ◌∙◌}
use mathlib.Core.Bool.{Bool, true, false}
use mathlib.Core.List.{List}
use borrow.Author.Tests.{eq-eqb}
use Rattle.rows.proofs.BoolLaws.{by_eq, both}
use Rattle.terms.specs.declared.LockString.{LockString}
use Rattle.frames.specs.Table.{LOGOUT}
use Rattle.frames.specs.Reading.{code}
use Rattle.who.specs.Logins.{logged_in}
use Rattle.locks.specs.Table.{row_count}
use Rattle.locks.specs.Holding.{has}
use Rattle.master.specs.Tables.{good_tables}
use Rattle.master.proofs.Outcomes.{refused_no_answer}
use Rattle.master.specs.Answers.{Told, answers, status_byte, login_as}
use Rattle.master.specs.Refusals.{ANYBODY}
use Rattle.master.proofs.TableLaws.{table, used_number, fresh_tables, logout_out}
use Rattle.master.specs.Ends.{gives}
use Rattle.master.proofs.EndLaws.{ends_not, ends_given, gives_login}
use Rattle.master.proofs.Keeps.{Begins, frame_keeps, frame_lives, frame_begins}
use Rattle.master.proofs.PollKeeps.{TurnDeed, turn_deed, poll_keeps, poll_others_have}
use Rattle.station.specs.State.{wait_of, code_in}
use Rattle.station.specs.Good.{limit}
use Rattle.station.specs.Asks.{fresh_state}
use Rattle.station.specs.Replies.{reply_refusal, Replies}
use Rattle.station.proofs.ListedLaws.{listed_none}
use Rattle.station.proofs.Keeps as keeps
use Rattle.exchange.specs.Runs.{Event, frame, turn, Run, start, ◌then◌, effect, tables, answer_in, ends_in}
use Rattle.exchange.specs.Following.{side_frame, sent, Follows, logs_in, others, polled, asks_lock, asks_unlock, asks_clear, sends, hears, sides, logout_refused}
use Rattle.exchange.proofs.OwnFrames.{Leaving, stayed, left, own_logout, side_stays}
use Rattle.exchange.proofs.Settling.{Settles, Exchange, unserved, settles, own_exchange}
use Rattle.exchange.proofs.Agreement.{agrees_still, same_agrees, lost_agrees}
use Rattle.exchange.proofs.Steps.{Inv, asks, lock_asked, unlock_asked, clear_asked, reply_taken, reply_inv}
use Rattle.master.specs.Effects.{Effect}

-- the tables are good after every run
pub run_good : (h : Run) → good_tables (tables h).locks (tables h).records ≡ true
unfolding tables effect
run_good start = fresh_tables
run_good (h then frame n f s) = frame_keeps n f s (tables h).locks (tables h).records (run_good h)
run_good (h then turn n heard) = poll_keeps n heard (tables h).locks (tables h).records (run_good h)

-- a poll turn that leaves k logged in leaves what k holds
turn_holds : (t w : List ℕ) (good : good_tables t w ≡ true) (n : ℕ) (heard : Bool) (k : ℕ) (d : Effect (List ℕ)) → TurnDeed n heard t w d → n ≡ k → logged_in d.records k ≡ true → (y : LockString) → has d.locks k y ≡ has t k y
turn_holds t w good n heard k _ (TurnDeed.refused j ne) e i y = refl
turn_holds t w good n heard k _ (TurnDeed.turned i₀ ne on) e i y = refl
turn_holds t w good n heard k _ (TurnDeed.dropped i₀ ne out) e i y = both i (logout_out t w good n i₀ k ∙ rw (eq-eqb k n (sym e)))

-- the whole of a run
module _ (k : ℕ) where
  abbrev pub At : Run → List ℕ → Type 0
  At h st = Inv k (tables h).locks (tables h).records st

  -- an event that leaves k logged in, with what it holds
  goes_on : (h : Run) (e : Event) (st : List ℕ) → At h st → logged_in (tables (h then e)).records k ≡ true → ((y : LockString) → has (tables (h then e)).locks k y ≡ has (tables h).locks k y) → At (h then e) st
  goes_on h e st i in-now same = record { inside = in-now; state_good = i.state_good; agrees = agrees_still i.agrees same }

  -- a login that is answered with k
  gives_k : (h : Run) (f s : List ℕ) (found : Bool) (serial : ℕ) → (k ≡ 0 → ⊥) → answer_in h ANYBODY f s ≡ answers (login_as k found serial) → gives (answer_in h ANYBODY f s) k ≡ true
  gives_k h f s found serial nz e = ap (λ (x : Told). gives x k) e ∙ gives_login k nz found serial k ∙ eq-eqb k k refl

  pub begins : (h : Run) (f s : List ℕ) (found : Bool) (serial : ℕ) → (k ≡ 0 → ⊥) → answer_in h ANYBODY f s ≡ answers (login_as k found serial)
      → Begins ANYBODY f s (tables h).locks (tables h).records (run_good h) k (effect (frame ANYBODY f s) (tables h))
  unfolding answer_in effect
  begins h f s found serial nz e = frame_begins ANYBODY f s _ _ (run_good h) k (gives_k h f s found serial nz e)

  -- and ends whoever had the number
  pub login_ends : (h : Run) (f s : List ℕ) (found : Bool) (serial : ℕ) → (k ≡ 0 → ⊥) → answer_in h ANYBODY f s ≡ answers (login_as k found serial) → ends_in h (frame ANYBODY f s) k ≡ true
  unfolding ends_in answer_in
  login_ends h f s found serial nz e = ends_given _ k (gives_k h f s found serial nz e)

  empty_agrees : (h : Run) (f s : List ℕ) → Begins ANYBODY f s (tables h).locks (tables h).records (run_good h) k (effect (frame ANYBODY f s) (tables h)) → At (h then frame ANYBODY f s) fresh_state
  unfolding code_in tables
  empty_agrees h f s n = record {
    inside = n.is_in_lem;
    state_good = keeps.fresh_good;
    agrees = same_agrees (λ y. rw keeps.fresh_list (listed_none (14 * limit) y ∙ sym (n.holds_none y))) (rw keeps.fresh_wait);
  }

  -- who is not ended is in
  stays : (h : Run) (e : Event) → ends_in h e k ≡ false → logged_in (tables (h then e)).records k ≡ true
  unfolding ends_in tables
  stays h e o = (ends_not _ k o).0

  others_on : (h : Run) (st : List ℕ) (n : ℕ) (f s : List ℕ) → (n ≡ k → ⊥) → ends_in h (frame n f s) k ≡ false → At h st → At (h then frame n f s) st
  unfolding ends_in tables effect
  others_on h st n f s ne o i = goes_on h (frame n f s) st i (stays h (frame n f s) o) ((frame_lives n f s _ _ (run_good h) k o).same_locks (λ e. ne (sym e)))

  polled_on : (h : Run) (st : List ℕ) (n : ℕ) (heard : Bool) → ends_in h (turn n heard) k ≡ false → At h st → At (h then turn n heard) st
  unfolding tables effect
  polled_on h st n heard o i = goes_on h (turn n heard) st i (stays h _ o) (λ y. by_eq n k
      (λ e. turn_holds _ _ (run_good h) n heard k _ (turn_deed n heard _ _) e (stays h _ o) y)
      (λ ne. poll_others_have n heard _ _ (run_good h) k (λ e. ne (sym e)) y))

  sides_on : (h : Run) (st f s : List ℕ) → side_frame f ≡ true → At h st → At (h then frame k f s) st
  unfolding tables effect
  sides_on h st f s y i =
      let stays = side_stays k f s (tables h).locks (tables h).records y in
      goes_on h (frame k f s) st i (rw stays.1 i.inside) (λ x. rw stays.0)

  -- a logout that is not refused logs it out
  logout_on : (h : Run) (st f s : List ℕ) → code f ≡ LOGOUT → ends_in h (frame k f s) k ≡ false → At h st → At (h then frame k f s) st
  unfolding tables effect
  logout_on h st f s e o i = goes_on h (frame k f s) st i (stays h _ o) (go (own_logout k f s _ _ e) (stays h _ o))
    where
      go : {d : Effect (List ℕ)} → Leaving k f s (tables h).locks (tables h).records d → logged_in d.records k ≡ true → (y : LockString) → has d.locks k y ≡ has (tables h).locks k y
      go (stayed _ _) _ y = refl
      go left in_then y = both in_then (logout_out _ _ (run_good h) k i.inside k ∙ rw (eq-eqb k k refl))

  own_table : (h : Run) (st : List ℕ) → At h st → (b s : List ℕ) → Exchange k (tables h).locks (tables h).records (wait_of st) (effect (frame k (sent st b) s) (tables h))
  unfolding effect
  own_table h st i b s = own_exchange _ (table _ _ (run_good h)) k (used_number _ _ (run_good h) k i.inside) s st b i.state_good

  -- the reply is lost
  lost : {t w st : List ℕ} {d : Effect (List ℕ)} → Inv k t w st → Exchange k t w (wait_of st) d → Inv k d.locks d.records st
  lost i (unserved a ne) = i
  lost i (settles b t' s) = record { inside = i.inside; state_good = i.state_good; agrees = lost_agrees i.agrees s }

  -- the reply is taken
  record Served (t w v : List ℕ) (b : ℕ) (t' w' : List ℕ) : Type 0 where
    settling : Settles k t t' v b
    same_records : w' ≡ w

  answered : {t w v : List ℕ} {d : Effect (List ℕ)} (b : ℕ) → Exchange k t w v d → d.tells ≡ answers (status_byte b) → Served t w v b d.locks d.records
  answered b (unserved a ne) e = absurd (refused_no_answer ne e)
  answered b (settles c t' s) e = let same : c ≡ b = cc in record { settling = subst (Settles k _ t' _) same s; same_records = refl }

  heard : (h : Run) (st : List ℕ) (i : At h st) (b s : List ℕ) (c : ℕ) → answer_in h k (sent st b) s ≡ answers (status_byte c) → Served (tables h).locks (tables h).records (wait_of st) c (tables (h then frame k (sent st b) s)).locks (tables (h then frame k (sent st b) s)).records
  unfolding answer_in tables
  heard h st i b s c e = answered c (own_table h st i b s) e

  rows_few : (h : Run) → row_count (tables h).locks ≤ limit
  rows_few h = let g = table _ _ (run_good h) in omega (arith, g.sized)

  pub taken : (h : Run) (st : List ℕ) (i : At h st) (b s : List ℕ) (c : ℕ) → answer_in h k (sent st b) s ≡ answers (status_byte c) → reply_refusal st c ≡ 0
  taken h st i b s c e = reply_taken k _ _ st i _ c (rows_few (h then frame k (sent st b) s)) (heard h st i b s c e).settling

  heard_on : (h : Run) (st : List ℕ) (i : At h st) (b s : List ℕ) (c r : ℕ) (st' : List ℕ) → answer_in h k (sent st b) s ≡ answers (status_byte c) → Replies st c r st' → At (h then frame k (sent st b) s) st'
  heard_on h st i b s c r st' e a =
      let z = taken h st i b s c e in
      let n = heard h st i b s c e in
      rw n.same_records (subst (Inv k _ _) (sym (a.left ∙ rw z)) (reply_inv k _ _ st i _ c (rows_few (h then frame k (sent st b) s)) n.settling))

  pub invariant : {h : Run} {at : ℕ} {st : List ℕ} → Follows k h at st → At h st
  unfolding tables
  invariant (logs_in h f s found serial nz e) = empty_agrees h f s (begins h f s found serial nz e)
  invariant (others {h} {at} {st} n f s ne o d) = others_on h st n f s ne o (invariant d)
  invariant (polled {h} {at} {st} n heard o d) = polled_on h st n heard o (invariant d)
  invariant (asks_lock {h} {at} {st} x long r st' a d) = let i = invariant d in asks k _ _ st i _ st' r a (lock_asked k _ _ st i x long)
  invariant (asks_unlock {h} {at} {st} x long r st' a d) = let i = invariant d in asks k _ _ st i _ st' r a (unlock_asked k _ _ st i x long)
  invariant (asks_clear {h} {at} {st} r st' a d) = let i = invariant d in asks k _ _ st i _ st' r a (clear_asked k _ _ st i)
  invariant (sends {h} {at} {st} b s d) = let i = invariant d in lost i (own_table h st i b s)
  invariant (hears {h} {at} {st} b s status r st' e a d) = heard_on h st (invariant d) b s status r st' e a
  invariant (sides {h} {at} {st} f s y d) = sides_on h st f s y (invariant d)
  invariant (logout_refused {h} {at} {st} f s e o d) = logout_on h st f s e o (invariant d)
