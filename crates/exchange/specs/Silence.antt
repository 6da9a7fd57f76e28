-- The silent station, over the poll turns of a run: from its login on it is not heard, while anything happens that does not end it. It is due in turns 1 to 160, then in 172, 184 and so on to 1,312, and is logged out in that turn.
use Rattle.std.specs.Prelude.{ℕ, suc, ◌-◌, ◌%◌, ◌<◌, ◌≡◌, Bool, true, false, ◌||◌, List, eqb, leb}
use Rattle.terms.specs.declared.LockString.{LockString}
use Rattle.who.specs.Logins.{logged_in}
use Rattle.master.specs.Answers.{answers, login_as, turn_was}
use Rattle.master.specs.Refusals.{ANYBODY}
use Rattle.exchange.specs.Runs.{frame, turn, Run, ◌then◌, tables, answer_in, turn_in, ends_in}
use Rattle.exchange.specs.Promise.{holds}

-- k has logged in, and since then t poll turns of k have passed, none of them heard
pub data Silent (k : ℕ) : Run → ℕ → Type 0 where
  logs_in : (h : Run) (f s : List ℕ) (found : Bool) (serial : ℕ) → (k ≡ 0 → ⊥)
      → answer_in h ANYBODY f s ≡ answers (login_as k found serial)
      → Silent k (h then frame ANYBODY f s) 0
  polled : {h : Run} {t : ℕ} → Silent k h t → Silent k (h then turn k false) (suc t)
  -- any frame that does not end the station, and any turn of another number, heard or not
  others : {h : Run} {t : ℕ} (n : ℕ) (f s : List ℕ) → ends_in h (frame n f s) k ≡ false → Silent k h t → Silent k (h then frame n f s) t
  others_polled : {h : Run} {t : ℕ} (n : ℕ) (heard : Bool) → (n ≡ k → ⊥) → Silent k h t → Silent k (h then turn n heard) t

-- the last turn, and the turns in which it is due
abbrev pub last_turn : ℕ
last_turn = 1312

unfoldable pub due_in_turn : ℕ → Bool
due_in_turn t = leb t 160 || eqb ((t - 160) % 12) 0

pub record Silence : Type 0 where
  -- what its next turn tells: due in these turns, and out in the last
  pub told : {k t : ℕ} {h : Run} → Silent k h t → t < last_turn → turn_in h k false ≡ answers (turn_was (due_in_turn (suc t)) (eqb (suc t) last_turn))
  -- it is logged in until then, and out after that turn, with nothing in its name
  pub inside : {k t : ℕ} {h : Run} → Silent k h t → t < last_turn → logged_in (tables h).records k ≡ true
  pub out : {k t : ℕ} {h : Run} → Silent k h t → suc t ≡ last_turn → logged_in (tables (h then turn k false)).records k ≡ false
  pub freed : {k t : ℕ} {h : Run} → Silent k h t → suc t ≡ last_turn → (x : LockString) → holds (h then turn k false) k x ≡ false
