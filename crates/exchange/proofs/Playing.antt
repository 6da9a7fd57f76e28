-- Every run can be played: whatever the rules tell is what some answer of an entry tells.
use Prim.Native.Nat.{ℕ, suc, ◌-◌, ◌<◌}
use native.Mathlib.Omega.{arith}
use mathlib.Core.Path.{◌≡◌, refl, sym, subst}
use mathlib.Core.Bool.{Bool, true, false, not, ◌&&◌, ◌||◌}
use mathlib.Core.List.{List}
use lib.Dec.{eqb}
use borrow.Author.Tests.{eqb-true, ne_eqb}
use Rattle.rows.specs.Rows.{copies}
use Rattle.rows.specs.Numbers.{low_first}
use Rattle.rows.proofs.BoolLaws.{by_test, by_eq, either}
use Rattle.rows.proofs.IndexLaws.{all_at}
use Rattle.rows.specs.Words.{all, any}
use Rattle.std.specs.Prelude.{Ok, Err}
use Rattle.refusals.specs.declared.Refusal.{Refusal}
use Rattle.refusals.specs.Refusals.{number}
use Rattle.refusals.proofs.OutcomeLaws.{named}
use Rattle.terms.specs.declared.Address.{Address}
use Rattle.terms.specs.declared.LockString.{LockString}
use Rattle.terms.specs.declared.Status as statuses
use Rattle.terms.specs.declared.Status.TheVariants.{Granted, NotYours, HeldByAnother, AlreadyYours, NoRoom}
use Rattle.terms.specs.Statuses.{byte_of}
use Rattle.terms.specs.Strings.{legal}
use Rattle.locks.specs.Table.{row_count, free_at, is_held, is_own, lock_status, unlocks, unlock_status}
use Rattle.who.specs.Logins.{logged_in}
use Rattle.frames.specs.declared.Command.{Command}
use Rattle.frames.specs.declared.Command.TheVariants.{Acknowledge, Read, Write, Login, Assign, Lock, Unlock, Clear, Logout}
use Rattle.frames.specs.declared.Request.{Request}
use Rattle.frames.specs.Reading.{request_in}
use Rattle.site.specs.declared.Refused.TheVariants.{Site, By}
use Rattle.site.specs.Places.{placed_in}
use Rattle.site.specs.Rules.{good_site}
use Rattle.site.proofs.PlaceLaws.{placed_low}
use Rattle.site.specs.Layout.{partition_row}
use Rattle.site.specs.Found.{index_of_name}
use Rattle.who.specs.Logins.{fresh_records}
use Rattle.locks.specs.Good.{fresh_locks}
use Rattle.site.specs.Faults.{first_fault}
use Rattle.master.specs.declared.Answer.TheVariants.{Nothing, Status, Assigned, At, LoggedIn}
use Rattle.master.specs.Answers.{Told, told, turn_told, done_told}
use Rattle.master.specs.Tables.{good_tables}
use Rattle.master.specs.Refusals.{ANYBODY, unknown, refusal}
use Rattle.master.proofs.RefusalLaws.{frame_low}
use Rattle.master.specs.Fresh.{sized, fresh_effect}
use Rattle.master.specs.Frames.{place_told, name_found, assignable, row_answer, assign_answer, logout_effect, number_given, login_effect, effect_of, request_effect, refusal_told, frame_effect}
use Rattle.master.specs.Polls.{turn_refusal, poll_refusal, due_now, out_now, station_turn, poll_effect, station_at}
use Rattle.exchange.specs.Runs.{frame, turn, Run, start, ◌then◌, effect, tables, Played, fresh, serve, poll_turn}
use Rattle.master.specs.Effects.{unless}

-- an answer that tells it
record Given {A : Type 0} (tell : A → Told) (x : Told) : Type 0 where
  answer : A
  tells : tell answer ≡ x

-- a refusal of the master has a name, and so has what a lock or an unlock comes to
refusal_named : (k : ℕ) → (k ≡ 0 → ⊥) → k < 13 → (r : Refusal) × (number r ≡ k)
unfolding all
refusal_named k some low =
    let keeps = all_at (λ i. eqb (number (named (suc i))) (suc i)) 12 (k - 1) refl (omega (arith, some, low)) in
    (named k, subst (λ (n : ℕ). number (named n) ≡ n) (omega (arith, some)) (eqb-true _ _ keeps))

lock_named : (t : List ℕ) (n : ℕ) (x : LockString) → (s : statuses.Status) × (byte_of s ≡ lock_status t n x)
unfolding lock_status
lock_named t n x = by_test (legal x)
    (λ l. by_test (is_own t n x)
    (λ o. (AlreadyYours, rw (l, o)))
    (λ o. by_test (is_held t x)
    (λ h. (HeldByAnother, rw (l, o, h)))
    (λ h. by_test (any (free_at t) (row_count t))
    (λ f. (Granted, rw (l, o, h, f)))
    (λ f. (NoRoom, rw (l, o, h, f))))))
    (λ l. (NotYours, rw l))

unlock_named : (t : List ℕ) (n : ℕ) (x : LockString) → (s : statuses.Status) × (byte_of s ≡ unlock_status t n x)
unfolding unlock_status
unlock_named t n x = by_test (unlocks t n x) (λ y. (Granted, rw y)) (λ m. (NotYours, rw m))

place_given : (s : List ℕ) (a : Address) → Given told (place_told (placed_in s a))
unfolding place_told told
place_given s a = let p = placed_in s a in by_eq p.refusal 0
    (λ e. record { answer = Ok (At p.place); tells = rw e })
    (λ ne. let r = refusal_named p.refusal ne (omega (arith, placed_low s a)) in record { answer = Err (By r.0); tells = rw (ne_eqb p.refusal 0 ne, r.1) })

login_given : (q : Request) (product : ℕ) (s t w : List ℕ) → Given told (login_effect q product s t w).tells
unfolding login_effect told
login_given q product s t w = by_test (eqb (number_given w) 0)
    (λ y. record { answer = Ok (LoggedIn 0 false (low_first q.serial)); tells = rw y refl })
    (λ m. record { answer = Ok (LoggedIn (number_given w) (name_found q s) (low_first q.serial)); tells = rw m refl })

assign_given : (q : Request) (s : List ℕ) → Given told (assign_answer q s)
unfolding assign_answer row_answer told
assign_given q s = by_test (assignable q s)
    (λ y. let r = partition_row s (index_of_name s q.name) in record { answer = Ok (Assigned r.size r.partition r.control r.volume); tells = rw y refl })
    (λ n. record { answer = Ok (Assigned 0xFF (record { 0 = 0 }) 0 (record { 0 = 0 })); tells = rw n refl })

command_given : (c : Command) (q : Request) (n : ℕ) (s t w : List ℕ) → Given told (effect_of c q n s t w).tells
unfolding effect_of logout_effect told
command_given Acknowledge q n s t w = record { answer = Ok Nothing; tells = refl }
command_given (Read src a) q n s t w = place_given s a
command_given (Write src a) q n s t w = place_given s a
command_given (Login product) q n s t w = login_given q product s _ _
command_given Assign q n s t w = assign_given q s
command_given Lock q n s t w = let b = lock_named t n q.string in record { answer = Ok (Status b.0); tells = rw b.1 }
command_given Unlock q n s t w = let b = unlock_named t n q.string in record { answer = Ok (Status b.0); tells = rw b.1 }
command_given Clear q n s t w = record { answer = Ok (Status Granted); tells = refl }
command_given (Logout src) q n s t w = record { answer = Ok Nothing; tells = refl }

-- the refusals of a frame, and those of a poll turn, are among them
refusal_low : (n : ℕ) (f s t w : List ℕ) → refusal n f s t w < 13
unfolding refusal
refusal_low n f s t w = either (not (good_tables t w)) 11 _ (omega arith) (either (not (good_site s)) 10 _ (omega arith) (omega (arith, frame_low n f w s)))

poll_low : (n : ℕ) (heard : Bool) (t w : List ℕ) → poll_refusal n heard t w < 13
unfolding poll_refusal turn_refusal
poll_low n heard t w =
    either (not (good_tables t w)) 11 _ (omega arith)
    (either (unknown (logged_in w) n) 2 _ (omega arith)
    (either (eqb n 0 || eqb n ANYBODY) 5 _ (omega arith)
    (either (heard && not (due_now (station_at w n))) 12 0 (omega arith) (omega arith))))

frame_given : (n : ℕ) (f s t w : List ℕ) → Given told (frame_effect n f s t w).tells
unfolding frame_effect request_effect refusal_told told
frame_given n f s t w = by_eq (refusal n f s t w) 0
    (λ e. rw e (command_given (request_in f).command (request_in f) n s t w))
    (λ ne. by_eq (refusal n f s t w) 10
    (λ (e : refusal n f s t w ≡ 10). record { answer = Err (Site (first_fault s)); tells = rw e })
    (λ no-site. let r = refusal_named (refusal n f s t w) ne (refusal_low n f s t w) in record { answer = Err (By r.0); tells = rw (ne_eqb (refusal n f s t w) 0 ne, ne_eqb (refusal n f s t w) 10 no-site, r.1) }))

turn_given : (n : ℕ) (heard : Bool) (t w : List ℕ) → Given turn_told (poll_effect n heard t w).tells
unfolding poll_effect unless station_turn turn_told
turn_given n heard t w = by_eq (poll_refusal n heard t w) 0
    (λ e. by_test (out_now (station_at w n) heard)
    (λ y. record { answer = Ok (record { due = due_now (station_at w n); out = true }); tells = rw (e, y) refl })
    (λ m. record { answer = Ok (record { due = due_now (station_at w n); out = false }); tells = rw (e, m) refl }))
    (λ ne. let r = refusal_named (poll_refusal n heard t w) ne (poll_low n heard t w) in record { answer = Err r.0; tells = rw (ne_eqb (poll_refusal n heard t w) 0 ne, r.1) })

fresh_sized : sized fresh_locks fresh_records ≡ true
unfolding sized fresh_locks fresh_records copies
fresh_sized = refl

pub playable : (h : Run) → Played h (tables h).locks (tables h).records
unfolding tables effect fresh_effect unless done_told
playable start = fresh fresh_locks fresh_records fresh_locks fresh_records (Ok tt) fresh_sized (record { answer = rw fresh_sized refl; locks = rw fresh_sized; records = rw fresh_sized })
playable (h then frame n f s) = let g = frame_given n f s _ _ in serve n f s _ _ g.answer (record { answer = g.tells; locks = refl; records = refl }) (playable h)
playable (h then turn n heard) = let g = turn_given n heard _ _ in poll_turn n heard _ _ g.answer (record { answer = g.tells; locks = refl; records = refl }) (playable h)
