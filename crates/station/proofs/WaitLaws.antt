-- The frame awaited: what 15 good bytes are, and the request that they are the frame of.
use Prim.Native.Nat.{ℕ}
use native.Mathlib.Omega.{arith}
use mathlib.Core.Path.{◌≡◌, refl, sym, ap, ◌∙◌, subst}
use mathlib.Core.Bool.{true, ◌&&◌, ◌||◌}
use mathlib.Core.List.{List, [], ◌∷◌, append-nil}
use lib.Dec.{eqb}
use lib.ListN.{length, get_or, drop, replicate, length-drop, drop_of_length-le}
use lib.Seq.{drop-cons, take_all}
use borrow.Author.Tests.{eqb-true, eqb-false, ne_eqb, not-true}
use Rattle.rows.specs.Words.{all, zero_at, zeros}
use Rattle.rows.specs.Rows.{part}
use Rattle.rows.proofs.BoolLaws.{by_eq, and_left, and_right, or_rest}
use Rattle.rows.proofs.BuildLaws.{zeros_is}
use Rattle.rows.proofs.RowLaws.{length_part, part_rest, part_end}
use Rattle.terms.specs.declared.LockString.{LockString}
use Rattle.terms.specs.Strings.{string_at}
use Rattle.frames.specs.declared.Command.{Command}
use Rattle.frames.specs.declared.Command.TheVariants.{Lock, Unlock, Clear}
use Rattle.frames.specs.declared.Request.{Request}
use Rattle.frames.specs.Table.{LOCK, UNLOCK, CLEAR, frame_length}
use Rattle.frames.specs.Requests.{no_string, plain, carried_by, carried}
use Rattle.frames.specs.Reading.{reading_of}
use Rattle.frames.specs.Writing.{code_of, fields_of, frame_of}
use Rattle.std.specs.Prelude.{Option, Some, None}
use Rattle.frames.specs.declared.code.Code.TheVariants as Coded
use Rattle.frames.proofs.TableLaws.{code_known}
use Rattle.frames.proofs.FieldLaws.{string_again}
use Rattle.frames.proofs.RoundTrips.{Sized, Typed, reads_back}
use Rattle.station.specs.State.{wait_of, code_in, asked_in, nothing}
use Rattle.station.specs.Good.{good_wait, good_state}
use Rattle.station.specs.Asks.{waits, awaited, awaited_clear, command_for, command_in, frame_awaited}
use Rattle.station.proofs.StateLaws.{state_is, wait_long}
use Rattle.station.proofs.PlaceLaws.{zeros_rest, zeros_not}

-- the bytes in which the reply to a command with its string is awaited
pub data Awaits : List ℕ → Command → LockString → Type 0 where
  locking : (x : LockString) → length x.bytes ≡ 13 → Awaits (awaited LOCK x) Lock x
  unlocking : (x : LockString) → length x.bytes ≡ 13 → Awaits (awaited UNLOCK x) Unlock x
  clearing : Awaits awaited_clear Clear no_string

-- a station awaits nothing, or such a reply
pub data WaitCase : List ℕ → Type 0 where
  idle : WaitCase nothing
  waiting : {v : List ℕ} {c : Command} {x : LockString} → Awaits v c x → WaitCase v

module _ (v : List ℕ) (long : length v ≡ 15) where
  pub asked_full : length (asked_in v).bytes ≡ 13
  unfolding asked_in string_at
  asked_full = length_part v 2 13 (omega arith)

  zeros_behind : (k : ℕ) → code_in v ≡ k → zeros (part v 1 14) ≡ true → k ∷ replicate 14 0 ≡ v
  unfolding code_in
  zeros_behind k e z =
      let all-zero : part v 1 14 ≡ replicate 14 0 = zeros_is (part v 1 14) z ∙ ap (λ (n : ℕ). replicate n 0) (length_part v 1 14 (omega arith)) in
      let tail : part v 1 14 ≡ drop 1 v = sym (append-nil (part v 1 14)) ∙ rw (← drop_of_length-le v {i = 15} (omega arith)) (part_rest v 1 14) in
      rw (← all-zero, tail, ← e) (sym (drop-cons v 0 0 (omega arith)))

  wait_case : good_wait v ≡ true → WaitCase v
  unfolding good_wait awaited asked_in code_in string_at
  wait_case good =
      by_eq (code_in v) LOCK (λ e. subst WaitCase (string_again v e long) (waiting (locking (asked_in v) asked_full))) λ nl.
      by_eq (code_in v) UNLOCK (λ e. subst WaitCase (string_again v e long) (waiting (unlocking (asked_in v) asked_full))) λ nu.
      let z = zeros (part v 1 14) in
      let o = eqb (code_in v) 0 || eqb (code_in v) CLEAR in
      let rest : (o && z) ≡ true = rw (ne_eqb _ _ nl, ne_eqb _ _ nu) at good in
      by_eq (code_in v) 0 (λ e. subst WaitCase (zeros_behind 0 e (and_right o z rest)) idle) λ nz.
      subst WaitCase (zeros_behind CLEAR (eqb-true _ _ (or_rest (eqb (code_in v) 0) (eqb (code_in v) CLEAR) (and_left o z rest) (ne_eqb _ _ nz))) (and_right o z rest)) (waiting clearing)

-- the test of the code: a byte that is no code is that of no request; what such a byte, and the code of a clear, say of the wait
pub no_request : (b : ℕ) → frame_length b ≡ 0 → (b ≡ LOCK → ⊥) × (b ≡ UNLOCK → ⊥) × (b ≡ CLEAR → ⊥)
no_request b none = (λ e. code_known b Coded.Lock e none, λ e. code_known b Coded.Unlock e none, λ e. code_known b Coded.Clear e none)

pub no_command : (v : List ℕ) → frame_length (get_or v 0 0) ≡ 0 → None ≡ command_in v
unfolding command_in code_in
no_command v none = let n = no_request (get_or v 0 0) none in rw (ne_eqb _ _ n.0, ne_eqb _ _ n.1, ne_eqb _ _ n.2)

module _ (v : List ℕ) (long : length v ≡ 15) where
  rest_is : part v 1 14 ≡ drop 1 v
  unfolding part
  rest_is = take_all 14 (drop 1 v) (omega (arith, length-drop 1 v))

  pub no_code : frame_length (get_or v 0 0) ≡ 0 → zeros v ≡ good_wait v
  unfolding good_wait code_in
  no_code none = let n = no_request (get_or v 0 0) none in
      rw (ne_eqb _ _ n.0, ne_eqb _ _ n.1, ne_eqb _ _ n.2, rest_is) (by_eq (get_or v 0 0) 0
      (λ (z : get_or v 0 0 ≡ 0). rw z (sym (zeros_rest v (omega arith) z)))
      (λ nz. rw (ne_eqb _ _ nz) (zeros_not v (omega arith) nz)))

  pub clear_code : get_or v 0 0 ≡ CLEAR → zeros (drop 1 v) ≡ good_wait v
  unfolding good_wait code_in
  clear_code e = rw (e, rest_is)

-- and each of these keeps the rules
pub case_good : {v : List ℕ} → WaitCase v → good_wait v ≡ true
unfolding good_wait code_in awaited zeros zero_at all part
case_good idle = refl
case_good (waiting (locking x full)) = refl
case_good (waiting (unlocking x full)) = refl
case_good (waiting clearing) = refl

pub case_long : {v : List ℕ} → WaitCase v → length v ≡ 15
unfolding awaited
case_long idle = refl
case_long (waiting (locking x full)) = rw full
case_long (waiting (unlocking x full)) = rw full
case_long (waiting clearing) = refl

-- the string asked for stands in the bytes awaited, as it was asked
pub asked_back : (code : ℕ) (x : LockString) → length x.bytes ≡ 13 → asked_in (awaited code x) ≡ x
unfolding asked_in awaited string_at
asked_back code x full = rw (part_end (code ∷ x.len ∷ []) x.bytes 2 13 refl full)

-- what a good state awaits, and what it awaits where it waits
module _ (st : List ℕ) (good : good_state st ≡ true) where
  pub state_wait : WaitCase (wait_of st)
  state_wait = let g = state_is st good in wait_case (wait_of st) (wait_long st (omega (arith, g.sized))) g.wait

  pub state_awaits : waits st ≡ true → Awaits (wait_of st) (command_for (code_in (wait_of st))) (asked_in (wait_of st))
  unfolding waits command_for code_in awaited string_at
  state_awaits w = go state_wait (eqb-false _ _ (not-true _ w))
    where
      go : {v : List ℕ} → WaitCase v → (code_in v ≡ 0 → ⊥) → Awaits v (command_for (code_in v)) (asked_in v)
      go idle ne = absurd (ne refl)
      go (waiting (locking x full)) ne = rw (asked_back LOCK x full) (locking x full)
      go (waiting (unlocking x full)) ne = rw (asked_back UNLOCK x full) (unlocking x full)
      go (waiting clearing) ne = unfold asked_in part in clearing

-- a command with the string beside it
abbrev pub asking : Command → LockString → Request
asking c x = record { command = c; name = replicate 8 0; password = replicate 6 0; serial = replicate 4 0; string = x }

-- the frame awaited is the frame of that request
pub awaited_frame : {v : List ℕ} {c : Command} {x : LockString} → Awaits v c x → frame_of (asking c x) ≡ frame_awaited v
unfolding frame_awaited frame_of code_of fields_of code_in awaited
awaited_frame (locking x full) = refl
awaited_frame (unlocking x full) = refl
awaited_frame clearing = refl

-- it is what the language's types say of every request, and carries all that it has
fields_sized : (c : Command) (x : LockString) → length x.bytes ≡ 13 → Sized (asking c x)
fields_sized c x full = record { name = refl; password = refl; serial = refl; string = full }

typed : {v : List ℕ} {c : Command} {x : LockString} → Awaits v c x → Typed (asking c x)
typed (locking x full) = record { sized = fields_sized Lock x full; track = tt }
typed (unlocking x full) = record { sized = fields_sized Unlock x full; track = tt }
typed clearing = record { sized = fields_sized Clear no_string refl; track = tt }

carries_all : {v : List ℕ} {c : Command} {x : LockString} → Awaits v c x → carried (asking c x) ≡ asking c x
unfolding carried carried_by plain
carries_all (locking x full) = refl
carries_all (unlocking x full) = refl
carries_all clearing = refl

-- and so it reads back as that request
pub awaited_reads : {v : List ℕ} {c : Command} {x : LockString} → Awaits v c x → reading_of (frame_awaited v) ≡ record { refusal = 0; request = asking c x }
awaited_reads {v} {c} {x} a = rw (← awaited_frame a, reads_back (asking c x) (typed a), carries_all a)

none_some : {c : Command} → ◌≡◌ {A = Option Command} None (Some c) → ⊥
none_some e = let z : ◌≡◌ {A = ℕ} 0 1 = cc in omega arith

some_one : {c d : Command} → ◌≡◌ {A = Option Command} (Some c) (Some d) → c ≡ d
some_one e = cc

-- so where no command is awaited there is no code, and the frame of a command that is awaited is that of it with its string
pub frame_none : {v : List ℕ} → WaitCase v → None ≡ command_in v → code_in v ≡ 0
unfolding command_in code_in awaited
frame_none idle e = refl
frame_none (waiting (locking x full)) e = absurd (none_some e)
frame_none (waiting (unlocking x full)) e = absurd (none_some e)
frame_none (waiting clearing) e = absurd (none_some e)

pub frame_some : {v : List ℕ} {c : Command} → WaitCase v → Some c ≡ command_in v → frame_of (asking c (asked_in v)) ≡ frame_awaited v
unfolding command_in code_in awaited
frame_some idle e = absurd (none_some (sym e))
frame_some (waiting (locking x full)) e = let same = some_one e in rw (same, asked_back LOCK x full) (awaited_frame (locking x full))
frame_some (waiting (unlocking x full)) e = let same = some_one e in rw (same, asked_back UNLOCK x full) (awaited_frame (unlocking x full))
frame_some (waiting clearing) e = let same = some_one e in rw same (unfold asked_in string_at part in awaited_frame clearing)
