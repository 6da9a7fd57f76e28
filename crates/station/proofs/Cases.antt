-- The cases of asking, sending and taking a reply, one law each: what the tests say, and what is answered and left.
use Prim.Native.Nat.{ℕ, ◌≤◌, ◌<◌}
use native.Mathlib.Omega.{arith}
use mathlib.Core.Path.{◌≡◌, refl, sym}
use mathlib.Core.Bool.{Bool, true, false, cond, not, ◌&&◌, and-false}
use mathlib.Core.List.{List, [], ◌++◌}
use lib.Dec.{eqb, ltb}
use lib.ListN.{length}
use borrow.Author.Tests.{ne_eqb, le-leb, lt-leb, leb-false, le-ltb, not-true, not-false}
use Rattle.std.specs.Prelude.{Result, Ok, Err}
use Rattle.refusals.specs.declared.Refusal.{Refusal}
use Rattle.refusals.specs.declared.Refusal.TheVariants.{BadTables}
use Rattle.refusals.specs.Outcomes.{LeavesUnless}
use Rattle.rows.proofs.BoolLaws.{by_test, both, and_left, and_right}
use Rattle.terms.specs.Strings.{legal}
use Rattle.terms.specs.declared.Status.{Status}
use Rattle.terms.specs.declared.Status.TheVariants.{Granted, NotYours, HeldByAnother, AlreadyYours, NoRoom}
use Rattle.terms.specs.Statuses.{byte_of}
use Rattle.frames.specs.Table.{LOCK, UNLOCK, CLEAR, frame_length}
use Rattle.frames.specs.declared.Request.{Request}
use Rattle.frames.specs.Writing.{frame_of, written_of}
use Rattle.frames.specs.Writing
use Rattle.station.specs.State.{list_of, wait_of, place_count, listed, is_full, added, code_in, asked_in, nothing}
use Rattle.station.specs.Good.{good_state}
use Rattle.station.specs.Asks.{ask_refusal, Asks, frame_awaited, send_refusal, sent_of, buffer_after, Sends}
use Rattle.refusals.specs.Refusals.{number}
use Rattle.refusals.proofs.OutcomeLaws.{number_never_0}
use Rattle.station.proofs.StateLaws.{state_is, too_short, wait_long}
use Rattle.station.proofs.WaitLaws.{no_request}
use Rattle.station.specs.Replies.{fits, grants, carries_length, adds, reply_refusal, after_reply, Replies}

-- an ask of a state too short to be split, and of the two parts of a state: refused, or done
module _ (st after : List ℕ) where
  pub ask_short : length st < 15 → Asks st after 11 st
  unfolding ask_refusal
  ask_short few = let bad = too_short st few in record { answer = rw bad; left = rw bad }

  pub ask_refused : {b : List ℕ} → b ≡ st → (r : Refusal) → number r ≡ ask_refusal b → Asks st after (number r) b
  ask_refused same r e =
      let is = rw same at e in
      record { answer = is; left = rw (← is, ne_eqb (number r) 0 (number_never_0 r)) same }

  pub ask_done : {b c : List ℕ} → b ≡ st → 0 ≡ ask_refusal b → c ≡ after → Asks st after 0 c
  ask_done same e done = let is = rw same at e in record { answer = is; left = rw (← is) done }

-- a reply
module _ (st : List ℕ) (b : ℕ) where
  pub reply_bad_state : good_state st ≡ false → Replies st b 11 st
  unfolding reply_refusal
  reply_bad_state g = record { answer = rw g; left = rw g }

  module _ (g : good_state st ≡ true) where
    pub reply_unlisted : fits (code_in (wait_of st)) b ≡ false → Replies st b 15 st
    unfolding reply_refusal
    reply_unlisted f = record { answer = rw (g, f); left = rw (g, f) }

    module _ (f : fits (code_in (wait_of st)) b ≡ true) where
      pub reply_bad_grant : (grants b && (carries_length (code_in (wait_of st)) && not (legal (asked_in (wait_of st))))) ≡ true → Replies st b 15 st
      unfolding reply_refusal
      reply_bad_grant h = record { answer = rw (g, f, h); left = rw (g, f, h) }

      module _ (h : (grants b && (carries_length (code_in (wait_of st)) && not (legal (asked_in (wait_of st))))) ≡ false) where
        pub reply_adds_none : adds (list_of st) (wait_of st) b ≡ false → Replies st b 0 (list_of st ++ nothing)
        unfolding reply_refusal after_reply
        reply_adds_none a = record { answer = rw (g, f, h, a); left = rw (g, f, h, a) }

        pub reply_full : adds (list_of st) (wait_of st) b ≡ true → place_count (list_of st) ≤ listed (list_of st) → Replies st b 15 st
        unfolding reply_refusal is_full
        reply_full a n = let full = le-leb (place_count (list_of st)) (listed (list_of st)) n in record { answer = rw (g, f, h, a, full); left = rw (g, f, h, a, full) }

        pub reply_adds : adds (list_of st) (wait_of st) b ≡ true → listed (list_of st) < place_count (list_of st) → Replies st b 0 (added (list_of st) (asked_in (wait_of st)) ++ nothing)
        unfolding reply_refusal is_full after_reply
        reply_adds a n = let room = lt-leb (place_count (list_of st)) (listed (list_of st)) n in record { answer = rw (g, f, h, a, room); left = rw (g, f, h, a, room) }

-- a reply that is listed and grants no illegal length; where one of these fails, 15
abbrev pub is_fit : List ℕ → ℕ → Bool
is_fit st b = fits (code_in (wait_of st)) b && not (grants b && (carries_length (code_in (wait_of st)) && not (legal (asked_in (wait_of st)))))

module _ (st : List ℕ) (b : ℕ) where
  pub reply_unfit : good_state st ≡ true → is_fit st b ≡ false → Replies st b 15 st
  reply_unfit g n = by_test (fits (code_in (wait_of st)) b)
      (λ y. reply_bad_grant st b g y (not-false _ (rw y at n)))
      (reply_unlisted st b g)

  pub fit_is : is_fit st b ≡ true → (fits (code_in (wait_of st)) b ≡ true) × ((grants b && (carries_length (code_in (wait_of st)) && not (legal (asked_in (wait_of st))))) ≡ false)
  fit_is y =
      let bad = grants b && (carries_length (code_in (wait_of st)) && not (legal (asked_in (wait_of st)))) in
      (and_left (fits (code_in (wait_of st)) b) (not bad) y, not-true bad (and_right (fits (code_in (wait_of st)) b) (not bad) y))

-- a byte that is no code, or no status, fits nothing
pub fits_no_code : (k b : ℕ) → frame_length k ≡ 0 → fits k b ≡ false
unfolding fits
fits_no_code k b none = let n = no_request k none in rw (ne_eqb _ _ n.0, ne_eqb _ _ n.1, ne_eqb _ _ n.2)

pub fits_no_status : (k b : ℕ) → ((s : Status) → byte_of s ≡ b → ⊥) → fits k b ≡ false
unfolding fits
fits_no_status k b none =
    let other : (s : Status) → eqb b (byte_of s) ≡ false = λ s. ne_eqb b (byte_of s) (λ e. none s (sym e)) in
    rw (other Granted, other AlreadyYours, other HeldByAnother, other NotYours, other NoRoom) (by_test (eqb k LOCK) (λ y. rw y) (λ m. rw m (by_test (eqb k UNLOCK) (λ y. rw y) (λ n. rw n (and-false (eqb k CLEAR))))))

-- a reply that is not refused: it is listed for the request, the length of a string that it grants is legal, and a new one has room
pub record Taken (st : List ℕ) (b : ℕ) : Type 0 where
  pub good : good_state st ≡ true
  pub fitting : fits (code_in (wait_of st)) b ≡ true
  pub lawful : grants b ≡ true → carries_length (code_in (wait_of st)) ≡ true → legal (asked_in (wait_of st)) ≡ true
  pub room : adds (list_of st) (wait_of st) b ≡ true → listed (list_of st) < place_count (list_of st)

module _ (st : List ℕ) (b : ℕ) where
  pub taken : reply_refusal st b ≡ 0 → Taken st b
  unfolding reply_refusal is_full
  taken z =
      let d = grants b in
      let c = carries_length (code_in (wait_of st)) in
      let k = legal (asked_in (wait_of st)) in
      let a = adds (list_of st) (wait_of st) b in
      let full = is_full (list_of st) in
      let t = none_holds (good_state st) (fits (code_in (wait_of st)) b) (d && (c && not k)) (a && full) z in record {
        good = t.0;
        fitting = t.1;
        lawful = λ y w. by_test k (λ l. l) (λ l. both (rw (y, w, l)) t.2);
        room = λ y. leb-false (place_count (list_of st)) (listed (list_of st)) (rw y at t.3);
      }
    where
      none_holds : (g f h a : Bool) → ◌≡◌ {A = ℕ} (cond (not g) 11 (cond (not f) 15 (cond h 15 (cond a 15 0)))) 0 → (g ≡ true) × (f ≡ true) × (h ≡ false) × (a ≡ false)
      none_holds true true false false e = (refl, refl, refl, refl)
      none_holds true true false true e = absurd (omega arith)
      none_holds true true true a e = absurd (omega arith)
      none_holds true false h a e = absurd (omega arith)
      none_holds false f h a e = absurd (omega arith)

-- sending: the state is bad, nothing is awaited, or the frame of a request is written
module _ (st b : List ℕ) where
  pub send_bad_state : good_state st ≡ false → Sends st b (Err BadTables) b
  unfolding sent_of buffer_after send_refusal
  send_bad_state g = record { answer = rw g; left = rw g }

  pub send_none : good_state st ≡ true → code_in (wait_of st) ≡ 0 → Sends st b (Ok 0) b
  unfolding sent_of buffer_after send_refusal
  send_none g z =
      let none = no_frame z in
      let room = le-ltb (length b) 0 (omega arith) in
      record { answer = rw (g, none, room) (refl, refl); left = rw (g, none, room) }
    where
      no_frame : code_in (wait_of st) ≡ 0 → frame_awaited (wait_of st) ≡ []
      no_frame z = unfold frame_awaited in rw z

  pub send_frame : good_state st ≡ true → (q : Request) → frame_of q ≡ frame_awaited (wait_of st) → {r : Result ℕ Refusal} {b' : List ℕ}
      → LeavesUnless (written_of q (length b)).refusal (written_of q (length b)).length (Writing.buffer_after q b) r b' → Sends st b r b'
  unfolding sent_of buffer_after send_refusal written_of Writing.buffer_after
  send_frame g q e {r} {b'} done =
      let n = length (frame_of q) in
      by_test (ltb (length b) n)
      (λ y. let short = rw y at done in rw (g, ← e, y) short)
      (λ m. let room = rw m at done in rw (g, ← e, m) room)

-- a frame sent has at most 15 bytes
frame_short : (v : List ℕ) → length v ≡ 15 → length (frame_awaited v) ≤ 15
unfolding frame_awaited
frame_short v long = by_test (eqb (code_in v) 0)
    (λ y. rw y (omega arith))
    (λ n. by_test (eqb (code_in v) CLEAR) (λ y. rw (n, y) (omega arith)) (λ m. rw (n, m) (omega (arith, long))))

pub sent_short : (st : List ℕ) (n : ℕ) → (sent_of st n).length < 256
unfolding sent_of send_refusal
sent_short st n = by_test (good_state st)
    (λ y. by_test (ltb n (length (frame_awaited (wait_of st))))
    (λ l. rw (y, l) (omega arith))
    (λ m. rw (y, m) (omega (arith, frame_short (wait_of st) (wait_long st (omega (arith, (state_is st y).sized)))))))
    (λ m. rw m (omega arith))
