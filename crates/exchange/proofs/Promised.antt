-- Demand 3 is kept.
use Prim.Native.Nat.{ℕ, ◌≤◌}
use mathlib.Core.Path.{◌≡◌, sym, ap₂, subst, ◌∙◌}
use mathlib.Core.Bool.{Bool, true, false}
use mathlib.Core.List.{List}
use lib.ListN.{length}
use borrow.Author.Tests.{eqb-true, not-false}
use Rattle.rows.proofs.BoolLaws.{contra, refuted}
use Rattle.terms.specs.declared.LockString.{LockString}
use Rattle.site.specs.Rules.{good_site}
use Rattle.locks.specs.Holding.{has}
use Rattle.locks.proofs.HoldingLaws.{one_holder}
use Rattle.std.specs.Prelude.{Result}
use Rattle.refusals.specs.declared.Refusal.{Refusal}
use Rattle.site.specs.declared.Refused.{Refused}
use Rattle.master.specs.declared.Answer.{Answer}
use Rattle.master.specs.declared.Turned.{Turned}
use Rattle.master.specs.Answers.{answers, told, status_byte, turn_told}
use Rattle.master.specs.Frames.{Serves, frame_effect}
use Rattle.master.specs.Polls.{Polls, poll_effect}
use Rattle.station.specs.State.{list_of, wait_of, is_listed, code_in}
use Rattle.station.specs.Asks.{waits}
use Rattle.station.specs.Replies.{reply_refusal, Replies}
use Rattle.station.proofs.Keeps.{reply_wait}
use Rattle.exchange.specs.Runs.{Run, effect, tables, answer_in, turn_in, Played, fresh, serve, poll_turn}
use Rattle.exchange.specs.Following.{sent, Follows}
use Rattle.exchange.specs.Promise.{holds, lists, Promise}
use Rattle.exchange.proofs.Settling.{own_answer}
use Rattle.exchange.proofs.Playing.{playable}
use Rattle.exchange.proofs.Agreement.{agree_same}
use Rattle.master.proofs.TableLaws.{table, used_number}
use Rattle.exchange.proofs.Invariant.{run_good, invariant, taken}
use Rattle.exchange.proofs.Logins.{lives, spared, one_number}
use Rattle.master.specs.Effects.{unless}
use Rattle.master.specs.Fresh.{fresh_effect}

-- waiting for nothing
idle_code : (st : List ℕ) → waits st ≡ false → code_in (wait_of st) ≡ 0
unfolding waits
idle_code st n = eqb-true _ _ (not-false _ n)

-- another station does not hold what this one lists
other_holds : {j k a b : ℕ} {h : Run} {st st' : List ℕ} → Follows j h a st → Follows k h b st' → (a ≡ b → ⊥) → (x : LockString) → is_listed (list_of st) x ≡ true → has (tables h).locks k x ≡ false
other_holds {j} {k} {a} {b} {h} {st} {st'} d d' ne x l = sym (refuted (has (tables h).locks k x) (λ p.
    ne (one_number d (subst (λ (n : ℕ). Follows n h b st') (one_holder (table _ _ (run_good h)) k j x p ((invariant j d).agrees.in_master x l)) d'))))

answer_comes : {k at : ℕ} {h : Run} {st : List ℕ} → Follows k h at st → waits st ≡ true → (b s : List ℕ) → 15 ≤ length b → good_site s ≡ true → (status : ℕ) × (answer_in h k (sent st b) s ≡ answers (status_byte status))
unfolding answer_in effect
answer_comes {k} {at} {h} {st} d w b s long site =
    let i = invariant k d in
    own_answer _ (table _ _ (run_good h)) k (used_number _ _ (run_good h) k i.inside) s (run_good h) site i.inside st b i.state_good w long

-- a reply that is not refused ends the wait
reply_ends : (st : List ℕ) (b r : ℕ) (st' : List ℕ) → Replies st b r st' → reply_refusal st b ≡ 0 → (r ≡ 0) × (waits st' ≡ false)
unfolding waits code_in
reply_ends st b r st' a z = (a.answer ∙ z, rw (a.left, z, reply_wait st b z))

-- the tables that the entries leave
by_entries : {h : Run} {t w : List ℕ} → Played h t w → (t ≡ (tables h).locks) × (w ≡ (tables h).records)
unfolding tables effect fresh_effect unless
by_entries (fresh t w t' w' r ok a) = (a.locks ∙ rw ok, a.records ∙ rw ok)
by_entries (serve n f s t' w' r a d) = let e = by_entries d in (a.locks ∙ rw (e.0, e.1), a.records ∙ rw (e.0, e.1))
by_entries (poll_turn n heard t' w' r a d) = let e = by_entries d in (a.locks ∙ rw (e.0, e.1), a.records ∙ rw (e.0, e.1))

-- and what they answer
frame_tells : {h : Run} {t w : List ℕ} → Played h t w → (n : ℕ) (f s t' w' : List ℕ) (r : Result Answer Refused) → Serves n f s t w r t' w' → told r ≡ answer_in h n f s
unfolding answer_in effect
frame_tells d n f s t' w' r a = let e = by_entries d in a.answer ∙ ap₂ (λ (x y : List ℕ). (frame_effect n f s x y).tells) e.0 e.1

turn_tells : {h : Run} {t w : List ℕ} → Played h t w → (n : ℕ) (heard : Bool) (t' w' : List ℕ) (r : Result Turned Refusal) → Polls n heard t w r t' w' → turn_told r ≡ turn_in h n heard
unfolding turn_in effect
turn_tells d n heard t' w' r a = let e = by_entries d in a.answer ∙ ap₂ (λ (x y : List ℕ). (poll_effect n heard x y).tells) e.0 e.1

pub promise : Promise
unfolding holds lists
promise = record {
  held = λ {k} d x l. (invariant k d).agrees.in_master x l;
  same = λ {k} {at} {h} {st} d quiet x. agree_same (invariant k d).agrees (idle_code st quiet) x;
  apart = λ {j} {k} {a} {b} {h} {st} {st'} d d' ne e. ne (one_number d (subst (λ (n : ℕ). Follows n h b st') (sym e) d'));
  alone = λ {j} {k} {a} {b} {h} {st} {st'} d d' ne x l. contra (is_listed (list_of st') x) (has (tables h).locks k x) ((invariant k d').agrees.in_master x) (other_holds d d' ne x l);
  inside = λ {k} d. (invariant k d).inside;
  lives = lives;
  spared = spared;
  answered = λ {k} {at} {h} {st} d w b s long good. answer_comes d w b s long good;
  taken = λ {k} {at} {h} {st} d b s status e r st' a. reply_ends st status r st' a (taken k h st (invariant k d) b s status e);
  tables_good = run_good;
  state_good = λ {k} d. (invariant k d).state_good;
  playable = playable;
  played = by_entries;
  frame_told = frame_tells;
  turn_told_lem = turn_tells;
}
