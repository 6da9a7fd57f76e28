-- The silent station over the poll turns of a run: in which it is due, and in which it is out.
use Prim.Native.Nat.{ℕ, suc, ◌+◌, ◌-◌, ◌%◌, ◌≤◌, ◌<◌}
use native.Mathlib.Omega.{arith}
use mathlib.Core.Path.{◌≡◌, sym, ◌∙◌}
use mathlib.Core.Bool.{true, false}
use lib.Dec.{eqb, leb}
use borrow.Author.Tests.{eqb-true, eq-eqb, leb-true, leb-false, le-leb}
use Rattle.rows.proofs.BoolLaws.{by_test, iff}
use Rattle.who.specs.Logins.{logged_in}
use Rattle.who.proofs.TurnLaws.{due_with}
use Rattle.master.proofs.TableLaws.{out_holds}
use Rattle.master.proofs.EndLaws.{ends_not}
use Rattle.master.proofs.PollKeeps.{poll_others_in}
use Rattle.exchange.specs.Runs.{turn, Run, ◌then◌, effect, tables, ends_in}
use Rattle.exchange.specs.Promise.{holds}
use Rattle.exchange.specs.Silence.{Silent, logs_in, polled, others, others_polled, last_turn, due_in_turn, Silence}
use Rattle.exchange.proofs.Invariant.{run_good}
use Rattle.exchange.proofs.TurnsLeft.{left_to, all_left, beside, framed, turn_tells, last, next}

-- it is in, with all but t of its turns left
left_of : {k t : ℕ} {h : Run} → Silent k h t → t < last_turn → (k ≡ 0 → ⊥) × (logged_in (tables h).records k ≡ true) × (left_to h k + t ≡ last_turn)
unfolding tables effect ends_in
left_of {k} (logs_in h f s found serial nz e) l = let b = all_left k h f s found serial nz e in (nz, b.0, omega (arith, b.1))
left_of {k} (polled {h} {t} d) l =
    let p = left_of d (omega arith) in
    let n = next k p.0 h p.1 (omega (arith, p.2)) in
    (p.0, n.0, omega (arith, p.2, n.1))
left_of {k} (others {h} n f s o d) l =
    let p = left_of d l in
    (p.0, (ends_not _ k o).0, rw (framed k h n f s o) p.2)
left_of {k} (others_polled {h} n heard ne d) l =
    let p = left_of d l in
    let kept = poll_others_in n heard _ _ (run_good h) k (λ e. ne (sym e)) in
    (p.0, kept.0 ∙ p.1, rw (beside k h (turn n heard) kept.1) p.2)

-- the turns left say which turn it is
module _ (t n : ℕ) (left : n + t ≡ last_turn) where
  turn_out : eqb n 1 ≡ eqb (suc t) last_turn
  turn_out = iff _ _ (λ e. eq-eqb (suc t) last_turn (omega (arith, eqb-true n 1 e))) (λ e. eq-eqb n 1 (omega (arith, eqb-true (suc t) last_turn e)))

  many : leb 1153 n ≡ leb (suc t) 160
  many = iff _ _ (λ e. le-leb (suc t) 160 (omega (arith, leb-true 1153 n e))) (λ e. le-leb 1153 n (omega (arith, leb-true (suc t) 160 e)))

  twelfth : 160 ≤ t → eqb (n % 12) 1 ≡ eqb ((suc t - 160) % 12) 0
  twelfth late = iff _ _
      (λ e. eq-eqb ((suc t - 160) % 12) 0 (omega (arith, eqb-true (n % 12) 1 e)))
      (λ e. eq-eqb (n % 12) 1 (omega (arith, eqb-true ((suc t - 160) % 12) 0 e)))

  turn_due : due_with n ≡ due_in_turn (suc t)
  unfolding due_with due_in_turn
  turn_due = rw many (by_test (leb (suc t) 160) (λ y. rw y) (λ f. rw (f, twelfth (omega (arith, leb-false (suc t) 160 f)))))

pub silence : Silence
unfolding holds
silence = record {
  told = λ {k} {t} {h} d l. let p = left_of d l in turn_tells k p.0 h p.1 ∙ rw (turn_due t (left_to h k) p.2, turn_out t (left_to h k) p.2);
  inside = λ d l. (left_of d l).1;
  out = λ d e. gone d e;
  freed = λ {k} {t} {h} d e x. out_holds _ _ (run_good (h then turn k false)) k (gone d e) x;
}
  where
    gone : {k t : ℕ} {h : Run} → Silent k h t → suc t ≡ last_turn → logged_in (tables (h then turn k false)).records k ≡ false
    gone {k} {t} {h} d e = let p = left_of d (omega (arith, e)) in last k p.0 h p.1 (omega (arith, e, p.2))
