-- The second run happens.
use Prim.Native.Nat.{ℕ}
use native.Mathlib.Omega.{arith}
use mathlib.Core.Path.{◌≡◌, refl}
use mathlib.Core.Bool.{true, false, not}
use mathlib.Core.List.{List}
use lib.ListN.{get_or}
use borrow.Author.Tests.{not-true}
use Rattle.rows.proofs.BoolLaws.{both, and_left}
use Rattle.master.specs.Answers.{refuses, answers, login_as}
use Rattle.master.specs.Refusals.{ANYBODY}
use Rattle.station.specs.Asks.{after_lock, fresh_state}
use Rattle.exchange.specs.Runs.{frame, start, ◌then◌, size, tables, answer_in, ends_in}
use Rattle.exchange.specs.Following.{Follows, logs_in, asks_lock, hears, lives_since}
use Rattle.exchange.specs.Promise.{holds}
use Rattle.exchange.specs.Story.{A, B, site, login, logout, buffer, locks_A, locks_B, one_locks, from, answers_in}
use Rattle.exchange.specs.Reset.{clerk, has_A, asks_B, has_B, one_alone, clerk_has_it, clerk_again, one_takes_it, clerk_has_B, clerk_moves, clerk_has_B_again, too_late, said_again, Restarts}
use Rattle.exchange.proofs.Invariant.{invariant, begins, login_ends}
use Rattle.exchange.proofs.Logins.{lives}
use Rattle.exchange.proofs.Told.{reset_told}
use Rattle.exchange.proofs.Happened.{answer_at, asks, takes, passes, passes_login, listing}

-- the answer to event i
told : (i : ℕ) → get_or (answers_in too_late) i (refuses 0) ≡ get_or said_again i (refuses 0)
told = answer_at reset_told.0

-- the clerk, before her first reset
clerk_locked : Follows 2 clerk_has_it 1 has_A
unfolding one_alone clerk_has_it clerk_again one_takes_it clerk_has_B clerk_moves clerk_has_B_again too_late from answers_in said_again size has_A one_locks locks_A A
clerk_locked = hears buffer site 0x00 _ _ (told 2) (takes one_locks 0x00) (
    asks_lock A refl _ _ (asks fresh_state (after_lock fresh_state A)) (
    logs_in one_alone clerk site false 0x04030201 (λ e. omega arith) (told 1)))

-- and after it
again_told : answer_in clerk_has_it ANYBODY clerk site ≡ answers (login_as 2 false 0x04030201)
unfolding one_alone clerk_has_it clerk_again one_takes_it clerk_has_B clerk_moves clerk_has_B_again too_late from answers_in said_again
again_told = told 3

new_begins : Follows 2 clerk_again 3 fresh_state
unfolding one_alone clerk_has_it clerk_again size
new_begins = logs_in clerk_has_it clerk site false 0x04030201 (λ e. omega arith) again_told

again_ends : ends_in clerk_has_it (frame ANYBODY clerk site) 2 ≡ true
again_ends = login_ends 2 clerk_has_it clerk site false 0x04030201 (λ e. omega arith) again_told

old_over : (st : List ℕ) → Follows 2 clerk_again 1 st → ⊥
unfolding one_alone clerk_has_it clerk_again size lives_since
old_over st d = both again_ends (not-true _ (and_left (not (ends_in clerk_has_it (frame ANYBODY clerk site) 2)) (lives_since 2 1 clerk_has_it) (lives d)))

lock_free : holds clerk_again 2 A ≡ false
unfolding holds clerk_again tables
lock_free = (begins 2 clerk_has_it clerk site false 0x04030201 (λ e. omega arith) again_told).holds_none A

clerk_locked_B : Follows 2 clerk_has_B 3 has_B
unfolding one_alone clerk_has_it clerk_again one_takes_it clerk_has_B clerk_moves clerk_has_B_again too_late from answers_in said_again has_B asks_B locks_B B
clerk_locked_B = hears buffer site 0x00 _ _ (told 5) (takes asks_B 0x00) (
    asks_lock B refl _ _ (asks fresh_state (after_lock fresh_state B)) (
    passes new_begins 1 _ (λ e. omega arith) (λ e. omega arith)))

-- station 1
one_idle : Follows 1 clerk_has_it 0 fresh_state
unfolding one_alone clerk_has_it clerk_again one_takes_it clerk_has_B clerk_moves clerk_has_B_again too_late from answers_in said_again size
one_idle =
    let here : Follows 1 one_alone 0 fresh_state = logs_in start login site false 0 (λ e. omega arith) (told 0) in
    let then-clerk : Follows 1 (one_alone then frame ANYBODY clerk site) 0 fresh_state = passes_login here clerk (λ e. omega arith) reset_told.1 in
    passes then-clerk 2 _ (λ e. omega arith) (λ e. omega arith)

one_locked : Follows 1 one_takes_it 0 has_A
unfolding one_alone clerk_has_it clerk_again one_takes_it clerk_has_B clerk_moves clerk_has_B_again too_late from answers_in said_again has_A one_locks locks_A A
one_locked = hears buffer site 0x00 _ _ (told 4) (takes one_locks 0x00) (
    asks_lock A refl _ _ (asks fresh_state (after_lock fresh_state A)) (
    passes_login one_idle clerk (λ e. omega arith) reset_told.2))

-- the clerk under her last number
moved : Follows 1 clerk_has_B_again 7 has_B
unfolding one_alone clerk_has_it clerk_again one_takes_it clerk_has_B clerk_moves clerk_has_B_again too_late from answers_in said_again size has_B asks_B locks_B B
moved = hears buffer site 0x00 _ _ (told 8) (takes asks_B 0x00) (
    asks_lock B refl _ _ (asks fresh_state (after_lock fresh_state B)) (
    logs_in (clerk_has_B then frame 1 logout site) clerk site false 0x04030201 (λ e. omega arith) (told 7)))

pub restarts : Restarts
restarts = record {
  told = reset_told.0;
  clerk_locked = clerk_locked;
  clerk_lists = listing 6;
  still_in = (invariant 2 new_begins).inside;
  old_over = old_over;
  new_begins = new_begins;
  lock_free = lock_free;
  one_locked = one_locked;
  clerk_locked_B = clerk_locked_B;
  clerk_lists_B = listing 7;
  moved = moved;
}
