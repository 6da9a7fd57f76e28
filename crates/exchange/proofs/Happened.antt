-- The story happens.
use Prim.Native.Nat.{ℕ}
use native.Mathlib.Omega.{arith}
use mathlib.Core.Path.{◌≡◌, refl, ap}
use mathlib.Core.Bool.{Bool, true, false}
use mathlib.Core.List.{List, [], ◌∷◌}
use lib.ListN.{get_or}
use Rattle.who.specs.Logins.{logged_in}
use Rattle.master.proofs.Outcomes.{refused_no_answer}
use Rattle.master.specs.Answers.{Told, refuses, answers, no_bytes}
use Rattle.master.specs.Refusals.{ANYBODY}
use Rattle.station.specs.Asks.{ask_refusal, after_lock, after_unlock, after_clear, Asks, fresh_state}
use Rattle.station.specs.Replies.{reply_refusal, Replies}
use Rattle.exchange.specs.Runs.{frame, Run, start, ◌then◌, size, effect, tables, answer_in}
use Rattle.exchange.specs.Following.{Follows, logs_in, others, asks_lock, asks_unlock, asks_clear, sends, hears}
use Rattle.exchange.specs.Promise.{holds, lists}
use Rattle.exchange.specs.Silence.{last_turn}
use Rattle.exchange.specs.Story.{A, B, site, login, logout, buffer, asked, replied, locks_A, locks_B, unlocks_A, one_locks, one_holds, one_unlocks, one_free, one_locks_B, one_holds_B, one_clears, one_empty, two_locks, two_denied, two_again, two_holds, from, unlock, logins, one_has_it, two_has_it, one_has_none, one_leaves, answers_in, said, silent, Happens}
use Rattle.master.proofs.TableLaws.{out_holds, logout_out}
use Rattle.exchange.proofs.OwnFrames.{Leaving, stayed, left, own_logout}
use Rattle.exchange.proofs.Invariant.{run_good, invariant}
use Rattle.exchange.proofs.TurnsLeft.{left_to, turnless, no_miss, silent_follows, silent_out}
use Rattle.exchange.proofs.Logins.{spared}
use Rattle.exchange.proofs.Told.{story_told, story_lists}
use Rattle.exchange.specs.Reset.{has_A, has_B}
use Rattle.master.specs.Frames.{excepted, starts_again}
use Rattle.frames.specs.Reading.{login_in, request_in}
use Rattle.rows.specs.Words.{all, zero_at, zeros}
use Rattle.rows.specs.Rows.{part}
use Rattle.master.specs.Effects.{Effect}

-- the answer to event i
pub answer_at : {xs ys : List Told} → xs ≡ ys → (i : ℕ) → get_or xs i (refuses 0) ≡ get_or ys i (refuses 0)
answer_at e i = ap (λ (l : List Told). get_or l i (refuses 0)) e

told : (i : ℕ) → get_or (answers_in one_leaves) i (refuses 0) ≡ get_or said i (refuses 0)
told = answer_at story_told

-- an ask and a reply leave what the story says
pub asks : (st next : List ℕ) → Asks st next (ask_refusal st) (asked st next)
unfolding asked
asks st next = record { answer = refl; left = refl }

pub takes : (st : List ℕ) (b : ℕ) → Replies st b (reply_refusal st b) (replied st b)
unfolding replied
takes st b = record { answer = refl; left = refl }

-- a frame at another number that is no login, and a login that spares the station
module _ {k at : ℕ} {h : Run} {st : List ℕ} (d : Follows k h at st) where
  pub passes : (n : ℕ) (f : List ℕ) → (n ≡ k → ⊥) → (n ≡ ANYBODY → ⊥) → Follows k (h then frame n f site) at st
  passes n f ne off = others n f site ne (spared d n f site ne (λ e. absurd (off e))) d

  pub passes_login : (f : List ℕ) → (ANYBODY ≡ k → ⊥) → starts_again (request_in f).serial (tables h).records k ≡ false → Follows k (h then frame ANYBODY f site) at st
  passes_login f ne other = others ANYBODY f site ne (spared d ANYBODY f site ne (λ e. other)) d

-- serial zero spares everybody
login_spares : (w : List ℕ) (k : ℕ) → starts_again (request_in login).serial w k ≡ false
unfolding excepted starts_again request_in login_in zeros zero_at all part login
login_spares w k = refl

-- station 1
one_in : Follows 1 logins 0 fresh_state
unfolding logins one_has_it two_has_it one_has_none one_leaves from answers_in said size
one_in = passes_login (passes_login (logs_in start login site false 0 (λ e. omega arith) (told 0)) login (λ e. omega arith) (login_spares _ 1)) login (λ e. omega arith) (login_spares _ 1)

one_waits : Follows 1 logins 0 one_locks
unfolding one_locks locks_A A
one_waits = asks_lock A refl _ _ (asks fresh_state (after_lock fresh_state A)) one_in

one_locked : Follows 1 one_has_it 0 one_holds
unfolding logins one_has_it two_has_it one_has_none one_leaves from answers_in said one_holds
one_locked = hears buffer site 0x81 _ _ (told 6) (takes one_locks 0x81) (
    passes (passes (sends buffer site one_waits) 2 _ (λ e. omega arith) (λ e. omega arith)) 3 unlock (λ e. omega arith) (λ e. omega arith))

one_unlocked : Follows 1 two_has_it 0 one_free
unfolding logins one_has_it two_has_it one_has_none one_leaves from answers_in said one_free one_unlocks unlocks_A A
one_unlocked = passes (
    hears buffer site 0x02 _ _ (told 8) (takes one_unlocks 0x02) (
    sends buffer site (asks_unlock A refl _ _ (asks one_holds (after_unlock one_holds A)) one_locked))) 2 _ (λ e. omega arith) (λ e. omega arith)

one_cleared : Follows 1 one_has_none 0 one_empty
unfolding logins one_has_it two_has_it one_has_none one_leaves from answers_in said one_locks_B locks_B B one_holds_B one_clears one_empty
one_cleared = hears buffer site 0x00 _ _ (told 11) (takes one_clears 0x00) (
    asks_clear _ _ (asks one_holds_B (after_clear one_holds_B)) (
    hears buffer site 0x00 _ _ (told 10) (takes one_locks_B 0x00) (
    asks_lock B refl _ _ (asks one_free (after_lock one_free B)) one_unlocked)))

logout_told : answer_in one_has_none 1 logout site ≡ answers no_bytes
unfolding logins one_has_it two_has_it one_has_none one_leaves from answers_in said
logout_told = told 12

one_out : logged_in (tables one_leaves).records 1 ≡ false
unfolding tables effect one_leaves answer_in logout
one_out = go (own_logout 1 logout site _ _ refl) logout_told
  where
    in_then : logged_in (tables one_has_none).records 1 ≡ true
    in_then = (invariant 1 one_cleared).inside

    go : {d : Effect (List ℕ)} → Leaving 1 logout site (tables one_has_none).locks (tables one_has_none).records d → d.tells ≡ answers no_bytes → logged_in d.records 1 ≡ false
    go (stayed a ne) e = absurd (refused_no_answer ne e)
    go left e = logout_out _ _ (run_good one_has_none) 1 in_then 1

-- station 2
two_in : Follows 2 logins 1 fresh_state
unfolding logins one_has_it two_has_it one_has_none one_leaves from answers_in said size
two_in = passes_login (logs_in (start then frame ANYBODY login site) login site false 0 (λ e. omega arith) (told 1)) login (λ e. omega arith) (login_spares _ 2)

two_asked : Follows 2 one_has_it 1 two_denied
unfolding logins one_has_it two_has_it one_has_none one_leaves from answers_in said two_denied two_locks locks_A A
two_asked =
    let heard = hears buffer site 0x01 _ _ (told 4) (takes two_locks 0x01) (asks_lock A refl _ _ (asks fresh_state (after_lock fresh_state A)) (passes two_in 1 _ (λ e. omega arith) (λ e. omega arith))) in
    passes (passes heard 3 unlock (λ e. omega arith) (λ e. omega arith)) 1 _ (λ e. omega arith) (λ e. omega arith)

two_locked : Follows 2 two_has_it 1 two_holds
unfolding logins one_has_it two_has_it one_has_none one_leaves from answers_in said two_holds two_again locks_A A
two_locked = hears buffer site 0x00 _ _ (told 9) (takes two_again 0x00) (
    asks_lock A refl _ _ (asks two_denied (after_lock two_denied A)) (
    passes (passes two_asked 1 _ (λ e. omega arith) (λ e. omega arith)) 1 _ (λ e. omega arith) (λ e. omega arith)))

two_stays : Follows 2 one_leaves 1 two_holds
unfolding one_has_none one_leaves from
two_stays = passes (passes (passes two_locked 1 _ (λ e. omega arith) (λ e. omega arith)) 1 _ (λ e. omega arith) (λ e. omega arith)) 1 logout (λ e. omega arith) (λ e. omega arith)

two_left : left_to one_leaves 2 ≡ last_turn
unfolding turnless logins one_has_it two_has_it one_has_none one_leaves from
two_left = no_miss two_stays refl

two_out : logged_in (tables (silent 2 1312 one_leaves)).records 2 ≡ false
two_out = silent_out 2 (λ e. omega arith) 1311 one_leaves (invariant 2 two_stays).inside two_left

-- who lists "A", and who "B"
pub listing : (i : ℕ) → get_or (lists one_holds A ∷ lists two_denied A ∷ lists one_free A ∷ lists two_holds A ∷ lists one_holds_B B ∷ lists one_empty B ∷ lists has_A A ∷ lists has_B B ∷ []) i false ≡ get_or (true ∷ false ∷ false ∷ true ∷ true ∷ false ∷ true ∷ true ∷ []) i false
listing i = ap (λ (l : List Bool). get_or l i false) story_lists

pub happens : Happens
unfolding holds
happens = record {
  told = story_told;
  one_locked = one_locked;
  one_lists = listing 0;
  two_asked = two_asked;
  two_lists_not = listing 1;
  one_unlocked = one_unlocked;
  one_lists_not = listing 2;
  two_locked = two_locked;
  two_lists = listing 3;
  one_locked_B = listing 4;
  one_cleared = one_cleared;
  one_lists_none = listing 5;
  one_out = one_out;
  two_silent = silent_follows 2 (λ e. omega arith) 1311 (omega (arith, two_left)) two_stays;
  two_out = two_out;
  two_holds_not = out_holds _ _ (run_good (silent 2 1312 one_leaves)) 2 two_out A;
}
