-- Everything that the master tells fits its word.
use Prim.Native.Nat.{ℕ, ◌+◌, ◌*◌, ◌<◌, ◌^◌}
use native.Mathlib.Omega.{arith}
use mathlib.Core.Path.{◌≡◌}
use mathlib.Core.Bool.{Bool, true, false, cond, not, ◌&&◌, ◌||◌}
use mathlib.Core.List.{List}
use lib.Dec.{eqb, ltb}
use lib.ListN.{get_or}
use borrow.Author.Tests.{ltb-true, ne_eqb}
use Rattle.rows.proofs.BoolLaws.{by_test, by_eq, and_left, either}
use Rattle.rows.proofs.NumberLaws.{Bytes, part_small}
use Rattle.rows.specs.Words.{any, same, zeros}
use Rattle.rows.specs.Numbers.{low_first}
use Rattle.terms.specs.declared.Address.{Address}
use Rattle.terms.specs.declared.LockString.{LockString}
use Rattle.terms.specs.Strings.{legal}
use Rattle.frames.specs.declared.Request.{Request}
use Rattle.frames.specs.declared.Command.TheVariants.{Assign, Lock, Unlock}
use Rattle.frames.specs.Requests.{plain}
use Rattle.frames.specs.Table.{READ, WRITE, LOGIN, ASSIGN, LOCK, UNLOCK, CLEAR, LOGOUT}
use Rattle.frames.specs.Reading.{code, address_in, named_in, login_in, string_request, request_in}
use Rattle.site.specs.declared.PartitionRow.{PartitionRow}
use Rattle.site.specs.Layout.{partitions, partitions_from, row_at, partition_password}
use Rattle.site.specs.Rules.{ranged, good_site}
use Rattle.site.specs.Faults.{first_fault, checked}
use Rattle.site.proofs.FirstFault.{fault_small}
use Rattle.site.specs.Found.{index_of_name, index_of_number}
use Rattle.site.specs.Places.{inside, place_on, refused, placed_on, placed_in, placed_by}
use Rattle.site.proofs.RuleLaws.{ranged_is, site_partition}
use Rattle.site.proofs.PlaceLaws.{place_ends}
use Rattle.who.specs.Good.{numbers}
use Rattle.who.specs.Logins.{lowest_number, logged_in}
use Rattle.locks.specs.Table.{row_count, free_at, is_held, is_own, lock_status, unlocks, unlock_status}
use Rattle.master.specs.Refusals.{ANYBODY, unknown, refusal}
use Rattle.master.proofs.RefusalLaws.{frame_low, ten_is_site}
use Rattle.master.specs.Answers.{Told, fault_told, turn_was, answers_unless}
use Rattle.master.specs.Tables.{good_tables}
use Rattle.master.specs.Frames.{place_told, row_answer, assignable, assign_answer, logout_effect, number_given, login_effect, effect_of, request_effect, refusal_told, frame_effect}
use Rattle.master.specs.Polls.{poll_refusal, turn_refusal, due_now, out_now, station_turn, poll_effect, station_at}
use Rattle.hinet.proofs.PackLaws.{Tellable}
use Rattle.master.specs.Effects.{Effect, unless_told, unless}
use Rattle.hinet.specs.Entries.{checked_told, site_told, located_told}

-- what holds of both sides of a choice
by_cond : {A : Type 0} (P : A → Type 0) (b : Bool) {x y : A} → P x → P y → P (cond b x y)
by_cond P true p q = p
by_cond P false p q = q

-- what fits where it is refused, and fits where it is done
unless_fits : (k : ℕ) (a : Told) (t w : List ℕ) (done : Effect (List ℕ)) → ((k ≡ 0 → ⊥) → Tellable a) → (k ≡ 0 → Tellable done.tells) → Tellable (unless_told k a t w done).tells
unless_fits k a t w done refused fits = by_eq k 0
    (λ z. rw z (fits z))
    (λ ne. rw (ne_eqb k 0 ne) (refused ne))

-- a place, in a good site file and in any
place_on_fits : (r : PartitionRow) (a : Address) → ranged r ≡ true → Tellable (place_told (placed_on r a))
unfolding place_told placed_on place_on refused
place_on_fits r a g = by_test (inside r a)
    (λ y. rw y (omega (arith, (ranged_is r g).volume, (place_ends r a g y).1)))
    (λ n. rw n (omega arith))

-- the number given at login
given_small : (w : List ℕ) → number_given w < 256
unfolding number_given
given_small w = by_test (ltb (lowest_number w) numbers) (λ y. rw y (omega (arith, ltb-true (lowest_number w) numbers y))) (λ m. rw m (omega arith))

module _ (s : List ℕ) where
  place_fits : good_site s ≡ true → (a : Address) → Tellable (place_told (placed_in s a))
  unfolding placed_in place_told refused
  place_fits good a = by_test (ltb (index_of_number s a.volume a.partition) (partitions s))
      (λ y. rw y (place_on_fits _ a (site_partition s good _ (ltb-true _ _ y)).range))
      (λ n. rw n (omega arith))

  -- the fault of a file that is not good
  fault_fits : good_site s ≡ false → Tellable (fault_told (first_fault s))
  unfolding fault_told
  fault_fits bad = fault_small s bad

  pub placed_fits : (a : Address) → Tellable (located_told (placed_by s a))
  unfolding placed_by located_told
  placed_fits a = by_test (good_site s) (λ y. rw y (place_fits y a)) (λ n. rw n (fault_fits n))

  pub site_fits : Tellable (site_told s)
  unfolding site_told checked_told checked
  site_fits = by_test (good_site s) (λ y. rw y tt) (λ n. rw n (fault_fits n))

  -- login and assign
  login_fits : (q : Request) (product : ℕ) (t w : List ℕ) → low_first q.serial < 2 ^ 32 → Tellable (login_effect q product s t w).tells
  unfolding login_effect
  login_fits q product t w small = by_test (eqb (number_given w) 0)
      (λ y. rw y (omega arith))
      (λ m. rw m (omega (arith, given_small w)))

  control_small : Bytes s → (at : ℕ) → (row_at s at).control < 256
  unfolding row_at
  control_small b at = b (at + 17)

  assign_fits : good_site s ≡ true → Bytes s → (q : Request) → Tellable (assign_answer q s)
  unfolding assign_answer assignable row_answer
  assign_fits good b q = by_test (assignable q s)
      (λ y.
      let found : index_of_name s q.name < partitions s = ltb-true _ _ (and_left (ltb (index_of_name s q.name) (partitions s)) (zeros q.password || same (partition_password s (index_of_name s q.name)) q.password) y) in
      let r = ranged_is _ (site_partition s good _ found).range in
      rw y (omega (arith, r.most, r.partition, control_small b (partitions_from s + 24 * index_of_name s q.name), r.volume)))
      (λ n. rw n (omega arith))

-- a status
lock_fits : (t : List ℕ) (n : ℕ) (x : LockString) → lock_status t n x < 256
unfolding lock_status
lock_fits t n x =
    either (not (legal x)) 0x02 _ (omega arith)
    (either (is_own t n x) 0x81 _ (omega arith)
    (either (is_held t x) 0x01 _ (omega arith)
    (either (not (any (free_at t) (row_count t))) 0x82 0x00 (omega arith) (omega arith))))

unlock_fits : (t : List ℕ) (n : ℕ) (x : LockString) → unlock_status t n x < 256
unfolding unlock_status
unlock_fits t n x = either (unlocks t n x) 0x00 0x02 (omega arith) (omega arith)

-- a refusal
module _ (n : ℕ) (f s t w : List ℕ) where
  refusal_small : refusal n f s t w < 256
  unfolding refusal
  refusal_small =
      either (not (good_tables t w)) 11 _ (omega arith)
      (either (not (good_site s)) 10 _ (omega arith)
      (omega (arith, frame_low n f w s)))

  site_good : refusal n f s t w ≡ 0 → good_site s ≡ true
  unfolding refusal
  site_good z = by_test (good_site s) (λ y. y) (λ m. by_test (good_tables t w) (λ g. absurd (omega (arith, rw (g, m) at z))) (λ g. absurd (omega (arith, rw g at z))))

  -- what each command is answered
  answer_fits : Bytes f → Bytes s → good_site s ≡ true → Tellable (request_effect (request_in f) n s t w).tells
  unfolding request_in named_in login_in string_request plain request_effect effect_of logout_effect
  answer_fits frame site good =
      let P : Request → Type 0 = λ q. Tellable (request_effect q n s t w).tells in
      by_cond P (eqb (code f) READ) (place_fits s good (address_in f))
      (by_cond P (eqb (code f) WRITE) (place_fits s good (address_in f))
      (by_cond P (eqb (code f) LOGIN) (login_fits s (login_in f) (get_or f 19 0) _ _ (part_small f 15 4 frame))
      (by_cond P (eqb (code f) ASSIGN) (assign_fits s good site (named_in Assign f))
      (by_cond P (eqb (code f) LOCK) (lock_fits t n (string_request Lock f).string)
      (by_cond P (eqb (code f) UNLOCK) (unlock_fits t n (string_request Unlock f).string)
      (by_cond P (eqb (code f) CLEAR) (omega arith)
      (by_cond P (eqb (code f) LOGOUT) tt tt)))))))

  refused_fits : (refusal n f s t w ≡ 0 → ⊥) → Tellable (refusal_told s (refusal n f s t w))
  unfolding refusal_told
  refused_fits ne = by_eq (refusal n f s t w) 10
      (λ (e : refusal n f s t w ≡ 10). rw e (fault_fits s (ten_is_site n f w s t e)))
      (λ no-site. rw (ne_eqb (refusal n f s t w) 10 no-site) (omega (arith, refusal_small)))

  pub frame_fits : Bytes f → Bytes s → Tellable (frame_effect n f s t w).tells
  unfolding frame_effect
  frame_fits frame site = unless_fits (refusal n f s t w) (refusal_told s (refusal n f s t w)) t w _ refused_fits (λ z. answer_fits frame site (site_good z))

-- a poll turn
pub poll_small : (n : ℕ) (h : Bool) (t w : List ℕ) → poll_refusal n h t w < 256
unfolding poll_refusal turn_refusal
poll_small n h t w =
    either (not (good_tables t w)) 11 _ (omega arith)
    (either (unknown (logged_in w) n) 2 _ (omega arith)
    (either (eqb n 0 || eqb n ANYBODY) 5 _ (omega arith)
    (either (h && not (due_now (station_at w n))) 12 0 (omega arith) (omega arith))))

-- what a turn tells: its refusal, or was it due and did it end in a logout
pub poll_choice : (n : ℕ) (h : Bool) (t w : List ℕ) → (poll_effect n h t w).tells ≡ answers_unless (poll_refusal n h t w) (turn_was (due_now (station_at w n)) (out_now (station_at w n) h))
unfolding poll_effect unless station_turn
poll_choice n h t w = by_test (eqb (poll_refusal n h t w) 0)
    (λ y. by_test (out_now (station_at w n) h) (λ o. rw (y, o)) (λ m. rw (y, m)))
    (λ n. rw n)
