-- Demand 3. For a station that follows the station rules, from its login until the master logs it out, whatever was lost and whatever
-- everybody else did:
--
--   every lock on its list is on the master's record in its name (`held`);
--   while it waits for no reply both hold the same strings (`same`);
--   no two such stations list one lock (`alone`), and they have two numbers (`apart`).
--
-- A station follows the rules over no event that ends it (`lives`). A login that is served with its serial, not zero, ends it, whoever
-- has its number then (`old_ended` in master's Shop), and no other frame of anybody else does (`spared`).
--
-- And so that the exchange does not stand still: with a good site file the master answers the frame it waits for (`answered`); the
-- station takes every answer to it as a reply, and the wait is over (`taken`). The tables and its state are never refused with 11
-- (`tables_good`, `state_good`). Every run can be played, call by call, by the master's entries (`playable`); the tables
-- of a run are those that they leave (`played`), and what they answer after it is `answer_in` and `turn_in` (`frame_told`, `turn_told_lem`).
--
-- What it does not say. A station that breaks the rules may list what it likes, and so may one whose number somebody else uses. A
-- station that the master has logged out, for its silence or for a login with its serial, still has its list and may not know it; its
-- next frame is refused with 2, or taken for another's where its number was given away. Nothing is said of time: every request and
-- every reply may be lost.
use Rattle.std.specs.Prelude.{ℕ, ◌≤◌, ◌≡◌, Bool, true, false, List, Result, length}
use Rattle.refusals.specs.declared.Refusal.{Refusal}
use Rattle.terms.specs.declared.LockString.{LockString}
use Rattle.frames.specs.Reading.{request_in}
use Rattle.site.specs.declared.Refused.{Refused}
use Rattle.site.specs.Rules.{good_site}
use Rattle.who.specs.Logins.{logged_in}
use Rattle.locks.specs.Holding.{has}
use Rattle.master.specs.Tables.{good_tables}
use Rattle.master.specs.declared.Answer.{Answer}
use Rattle.master.specs.declared.Turned.{Turned}
use Rattle.master.specs.Answers.{answers, told, status_byte, turn_told}
use Rattle.master.specs.Refusals.{ANYBODY}
use Rattle.master.specs.Frames.{starts_again, Serves}
use Rattle.master.specs.Polls.{Polls}
use Rattle.station.specs.State.{list_of, is_listed}
use Rattle.station.specs.Good.{good_state}
use Rattle.station.specs.Asks.{waits}
use Rattle.station.specs.Replies.{Replies}
use Rattle.exchange.specs.Runs.{frame, Run, tables, answer_in, turn_in, ends_in, Played}
use Rattle.exchange.specs.Following.{sent, Follows, lives_since}

-- the master's record after a run has x in the name of k; a station's state lists x
unfoldable pub holds : Run → ℕ → LockString → Bool
holds h k x = has (tables h).locks k x

unfoldable pub lists : List ℕ → LockString → Bool
lists st x = is_listed (list_of st) x

pub record Promise : Type 0 where
  pub held : {k at : ℕ} {h : Run} {st : List ℕ} → Follows k h at st → (x : LockString) → lists st x ≡ true → holds h k x ≡ true
  pub same : {k at : ℕ} {h : Run} {st : List ℕ} → Follows k h at st → waits st ≡ false → (x : LockString) → lists st x ≡ holds h k x
  pub apart : {j k a b : ℕ} {h : Run} {st st' : List ℕ} → Follows j h a st → Follows k h b st' → (a ≡ b → ⊥) → j ≡ k → ⊥
  pub alone : {j k a b : ℕ} {h : Run} {st st' : List ℕ} → Follows j h a st → Follows k h b st' → (a ≡ b → ⊥) → (x : LockString) → lists st x ≡ true → lists st' x ≡ false
  pub inside : {k at : ℕ} {h : Run} {st : List ℕ} → Follows k h at st → logged_in (tables h).records k ≡ true
  pub lives : {k at : ℕ} {h : Run} {st : List ℕ} → Follows k h at st → lives_since k at h ≡ true
  pub spared : {k at : ℕ} {h : Run} {st : List ℕ} → Follows k h at st → (n : ℕ) (f s : List ℕ) → (n ≡ k → ⊥)
      → (n ≡ ANYBODY → starts_again (request_in f).serial (tables h).records k ≡ false) → ends_in h (frame n f s) k ≡ false
  pub answered : {k at : ℕ} {h : Run} {st : List ℕ} → Follows k h at st → waits st ≡ true → (b s : List ℕ) → 15 ≤ length b → good_site s ≡ true
      → (status : ℕ) × (answer_in h k (sent st b) s ≡ answers (status_byte status))
  pub taken : {k at : ℕ} {h : Run} {st : List ℕ} → Follows k h at st → (b s : List ℕ) (status : ℕ) → answer_in h k (sent st b) s ≡ answers (status_byte status)
      → (r : ℕ) (st' : List ℕ) → Replies st status r st' → (r ≡ 0) × (waits st' ≡ false)
  pub tables_good : (h : Run) → good_tables (tables h).locks (tables h).records ≡ true
  pub state_good : {k at : ℕ} {h : Run} {st : List ℕ} → Follows k h at st → good_state st ≡ true
  pub playable : (h : Run) → Played h (tables h).locks (tables h).records
  pub played : {h : Run} {t w : List ℕ} → Played h t w → (t ≡ (tables h).locks) × (w ≡ (tables h).records)
  pub frame_told : {h : Run} {t w : List ℕ} → Played h t w → (n : ℕ) (f s t' w' : List ℕ) (r : Result Answer Refused) → Serves n f s t w r t' w' → told r ≡ answer_in h n f s
  pub turn_told_lem : {h : Run} {t w : List ℕ} → Played h t w → (n : ℕ) (heard : Bool) (t' w' : List ℕ) (r : Result Turned Refusal) → Polls n heard t w r t' w' → turn_told r ≡ turn_in h n heard
