-- The cases of a poll turn, one law each.
use Prim.Native.Nat.{ℕ, ◌<◌}
use native.Mathlib.Omega.{arith}
use mathlib.Core.Path.{◌≡◌, refl}
use mathlib.Core.Bool.{Bool, true, false, cond, not, ◌&&◌, ◌||◌}
use mathlib.Core.List.{List}
use lib.Dec.{eqb}
use borrow.Author.Tests.{eqb-false, not-false}
use Rattle.rows.proofs.BoolLaws.{both, or_rest}
use Rattle.std.specs.Prelude.{Err}
use Rattle.refusals.specs.declared.Refusal.{Refusal}
use Rattle.refusals.specs.Refusals.{number}
use Rattle.refusals.proofs.OutcomeLaws.{number_never_0}
use Rattle.who.specs.Good.{good_counts, numbers}
use Rattle.who.specs.Logins.{logged_in}
use Rattle.who.proofs.RecordLaws.{station_counts}
use Rattle.who.proofs.WhoLaws.{good_is, logged_below}
use Rattle.master.specs.Tables.{good_tables}
use Rattle.master.specs.Refusals.{ANYBODY, unknown}
use Rattle.master.proofs.TableLaws.{records_good}
use Rattle.master.specs.Polls.{station_at, poll_refusal, Polls, turn_refusal, poll_effect}
use Rattle.master.specs.Answers.{turn_told}
use Rattle.master.specs.Inner.{seat_refusal}
use Rattle.master.proofs.EffectLaws.{refusing}

-- the tests of a turn
module _ (good : Bool) (inside : ℕ → Bool) (n : ℕ) where
  -- 12 stands behind the others
  pub refusal_last : (heard due : Bool) → turn_refusal good inside n heard due ≡ cond (eqb (seat_refusal good inside n) 0) (cond (heard && not due) 12 0) (seat_refusal good inside n)
  unfolding turn_refusal seat_refusal
  refusal_last heard due = go (not good) (unknown inside n) (eqb n 0 || eqb n ANYBODY) (cond (heard && not due) 12 0)
    where
      go : (a b c : Bool) (z : ℕ) → cond a 11 (cond b 2 (cond c 5 z)) ≡ cond (eqb (cond a 11 (cond b 2 (cond c 5 0))) 0) z (cond a 11 (cond b 2 (cond c 5 0)))
      go true b c z = refl
      go false true c z = refl
      go false false true z = refl
      go false false false z = refl

  -- a turn that is not refused, over good tables, is that of a station 1 to 63 that is logged in
  pub record Seated : Type 0 where
    pub tables : good ≡ true
    pub is_in_lem : inside n ≡ true
    pub not_local : n ≡ 0 → ⊥

  pub seated : (heard due : Bool) → turn_refusal good inside n heard due ≡ 0 → Seated
  unfolding turn_refusal unknown
  seated heard due z =
      let p = pass good (not (eqb n ANYBODY || inside n)) (eqb n 0 || eqb n ANYBODY) (heard && not due) z in
      let q = neither (eqb n 0) (eqb n ANYBODY) p.2 in
      record { tables = p.0; is_in_lem = or_rest (eqb n ANYBODY) (inside n) (not-false _ p.1) q.1; not_local = eqb-false n 0 q.0 }
    where
      pass : (a b c d : Bool) → ◌≡◌ {A = ℕ} (cond (not a) 11 (cond b 2 (cond c 5 (cond d 12 0)))) 0 → (a ≡ true) × (b ≡ false) × (c ≡ false)
      pass false b c d e = absurd (omega arith)
      pass true true c d e = absurd (omega arith)
      pass true false true d e = absurd (omega arith)
      pass true false false d e = (refl, refl, refl)

      neither : (a b : Bool) → (a || b) ≡ false → (a ≡ false) × (b ≡ false)
      neither true b h = both refl h
      neither false b h = (refl, h)

module _ (n : ℕ) (heard : Bool) (t w : List ℕ) where
  -- a refused turn, by its number
  pub polls_refused : (r : Refusal) → poll_refusal n heard t w ≡ number r → Polls n heard t w (Err r) t w
  unfolding poll_effect turn_told
  polls_refused r e = rw e (refusing (number r) t w _ (number_never_0 r))

  pub poll_bad_tables : good_tables t w ≡ false → poll_refusal n heard t w ≡ 11
  unfolding poll_refusal turn_refusal
  poll_bad_tables h = rw h

-- the record of a station that is logged in: it is there, and its counts are in range
module _ (n : ℕ) (t w : List ℕ) (good : good_tables t w ≡ true) (in-now : logged_in w n ≡ true) where
  pub polled_below : n < numbers
  polled_below = logged_below w (good_is w (records_good t w good)).sized n in-now

  pub polled_counts : good_counts (station_at w n).misses (station_at w n).slow ≡ true
  unfolding station_at
  polled_counts = station_counts n _ ((good_is w (records_good t w good)).each n polled_below).rules
