-- A station lives over the events that do not end it, and two stations have two numbers: the later login ended whoever had its number.
use Prim.Native.Nat.{ℕ, ◌≤◌}
use native.Mathlib.Omega.{arith}
use mathlib.Core.Path.{◌≡◌, refl, sym, ◌∙◌}
use mathlib.Core.Bool.{Bool, true, false, or-true}
use mathlib.Core.Logic.{◌⊎◌, inl, inr}
use mathlib.Core.List.{List}
use lib.Dec.{leb}
use borrow.Author.Tests.{le-leb}
use Rattle.rows.proofs.BoolLaws.{both, by_test}
use Rattle.frames.specs.Reading.{request_in}
use Rattle.who.specs.Logins.{logged_in}
use Rattle.who.proofs.WhoLaws.{logged_below}
use Rattle.master.specs.Answers.{refusal_number}
use Rattle.master.specs.Refusals.{ANYBODY}
use Rattle.master.specs.Effects.{Effect}
use Rattle.master.specs.Ends.{number_in, gives, ends}
use Rattle.master.specs.Frames.{logout_effect, starts_again, frame_effect}
use Rattle.master.proofs.TableLaws.{sized}
use Rattle.master.proofs.EndLaws.{not_ended, gives_none, gives_refused}
use Rattle.master.proofs.Keeps.{Goes, by_logout, by_login, frame_ended}
use Rattle.master.proofs.PollKeeps.{TurnDeed, turn_deed}
use Rattle.master.proofs.Deeds.{Deed, refused, quiet, logged_in_lem, locked, unlocked, cleared, logged_out, deed}
use Rattle.exchange.specs.Runs.{Event, frame, turn, Run, start, ◌then◌, size, effect, tables, ends_in}
use Rattle.exchange.specs.Following.{lives_since, Follows, logs_in, others, polled, asks_lock, asks_unlock, asks_clear, sends, hears, sides, logout_refused}
use Rattle.exchange.proofs.Invariant.{run_good, invariant, login_ends}

-- only at 253 a number is given
gives_at : (n : ℕ) (f s t w : List ℕ) (d : Effect (List ℕ)) → Deed n f s t w d → (n ≡ ANYBODY → ⊥) → (k : ℕ) → gives d.tells k ≡ false
unfolding number_in logout_effect
gives_at n f s t w _ (refused a ne) off k = gives_refused a ne k
gives_at n f s t w _ (quiet a z) off k = gives_none a z k
gives_at n f s t w _ (logged_in_lem at g name serial product found n8 s4 sent some) off k = absurd (off at)
gives_at n f s t w _ (locked i x b) off k = gives_none _ refl k
gives_at n f s t w _ (unlocked i x) off k = gives_none _ refl k
gives_at n f s t w _ (cleared i) off k = gives_none _ refl k
gives_at n f s t w _ (logged_out i ne) off k = gives_none _ refl k

-- a station's own frame, over which it follows the rules, does not end it
pub own_lives : {k at : ℕ} {h : Run} {f s st st' : List ℕ} → Follows k h at st → Follows k (h then frame k f s) at st' → ends_in h (frame k f s) k ≡ false
unfolding ends_in tables effect
own_lives {k} {at} {h} {f} {s} d d' =
    not_ended _ k (invariant k d').inside (gives_at k f s _ _ _ (deed k f s _ _) (λ e. omega (arith, logged_below _ (sized _ _ (run_good h)) k (invariant k d).inside)) k)

-- a poll turn gives no number
pub turn_lives : (k : ℕ) (h : Run) (n : ℕ) (heard : Bool) → logged_in (tables (h then turn n heard)).records k ≡ true → ends_in h (turn n heard) k ≡ false
unfolding ends_in tables effect
turn_lives k h n heard in-now = not_ended _ k in-now (go (turn_deed n heard _ _))
  where
    go : {d : Effect (List ℕ)} → TurnDeed n heard (tables h).locks (tables h).records d → gives d.tells k ≡ false
    go (TurnDeed.refused j ne) = unfold refusal_number in gives_refused _ ne k
    go (TurnDeed.turned i ne on) = unfold number_in in gives_none _ refl k
    go (TurnDeed.dropped i ne out) = unfold number_in in gives_none _ refl k

-- a frame at another number spares whoever has not the serial of a login
pub spared : {k at : ℕ} {h : Run} {st : List ℕ} → Follows k h at st → (n : ℕ) (f s : List ℕ) → (n ≡ k → ⊥) → (n ≡ ANYBODY → starts_again (request_in f).serial (tables h).records k ≡ false) → ends_in h (frame n f s) k ≡ false
unfolding ends_in effect
spared {k} {at} {h} d n f s ne other = by_test (ends (frame_effect n f s (tables h).locks (tables h).records) k)
    (λ y. go (frame_ended n f s _ _ (run_good h) k (invariant k d).inside y))
    (λ m. m)
  where
    go : Goes n f s (tables h).locks (tables h).records (run_good h) k → ends (frame_effect n f s (tables h).locks (tables h).records) k ≡ false
    go (by_logout e) = absurd (ne (sym e))
    go (by_login e y) = both y (other e)

-- the event with index `at` ended whoever was under k, and none has since
data Since (k at : ℕ) : Run → Type 0 where
  from_there : (h : Run) (e : Event) → size h ≡ at → ends_in h e k ≡ true → Since k at (h then e)
  on : (h : Run) (e : Event) → ends_in h e k ≡ false → Since k at h → Since k at (h then e)

since : {k at : ℕ} {h : Run} {st : List ℕ} → Follows k h at st → Since k at h
since {k} (logs_in h f s found serial nz e) = from_there h _ refl (login_ends k h f s found serial nz e)
since (others {h} n f s ne o d) = on h _ o (since d)
since (polled {h} n heard o d) = on h _ o (since d)
since (asks_lock x long r st' a d) = since d
since (asks_unlock x long r st' a d) = since d
since (asks_clear r st' a d) = since d
since (sends {h} b s d) = on h _ (own_lives d (sends b s d)) (since d)
since (hears {h} b s status r st' e a d) = on h _ (own_lives d (hears b s status r st' e a d)) (since d)
since (sides {h} f s y d) = on h _ (own_lives d (sides f s y d)) (since d)
since (logout_refused {h} f s e o d) = on h _ o (since d)

-- an event that came before, or did not end it
spared_then : (k at : ℕ) (h : Run) (e : Event) → (size h ≤ at) ⊎ (ends_in h e k ≡ false) → lives_since k at h ≡ true → lives_since k at (h then e) ≡ true
unfolding lives_since
spared_then k at h e (inl l) r = rw (le-leb (size h) at l, r)
spared_then k at h e (inr o) r = rw (o, or-true (leb (size h) at), r)

since_lives : {k at : ℕ} {h : Run} → Since k at h → lives_since k at h ≡ true
unfolding lives_since size
since_lives {k} {at} (from_there h e p given) = spared_then k at h e (inl (omega arith)) (early h (omega arith))
  where
    early : (g : Run) → size g ≤ at → lives_since k at g ≡ true
    early start l = refl
    early (g then e') l = spared_then k at g e' (inl (omega arith)) (early g (omega arith))
since_lives {k} {at} (on h e o d) = spared_then k at h e (inr o) (since_lives d)

-- its life goes on over the events that do not end it
pub lives : {k at : ℕ} {h : Run} {st : List ℕ} → Follows k h at st → lives_since k at h ≡ true
lives d = since_lives (since d)

since_one : {k a b : ℕ} {h : Run} → Since k a h → Since k b h → a ≡ b
since_one (from_there h e p given) (from_there h' e' q given') = sym p ∙ q
since_one (from_there h e p given) (on h' e' o d) = both given o
since_one (on h e o d) (from_there h' e' q given) = both given o
since_one (on h e o d) (on h' e' o' d') = since_one d d'

pub one_number : {k a b : ℕ} {h : Run} {st st' : List ℕ} → Follows k h a st → Follows k h b st' → a ≡ b
one_number d d' = since_one (since d) (since d')
