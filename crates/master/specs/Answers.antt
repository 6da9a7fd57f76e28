-- What an entry tells, in 01's numbers: a refusal, the site file's with its first fault (02, Req 01), or an answer of one kind with its
-- values.
use Rattle.std.specs.Prelude.{ℕ, Bool, cond, eqb, Result, Ok, Err}
use Rattle.refusals.specs.declared.Refusal.{Refusal}
use Rattle.refusals.specs.Refusals.{number}
use Rattle.terms.specs.Statuses.{byte_of}
use Rattle.site.specs.declared.Fault.{Fault}
use Rattle.site.specs.declared.Refused.{Refused}
use Rattle.site.specs.declared.Refused.TheVariants.{Site, By}
use Rattle.site.specs.Faults.{fault_part, fault_row, fault_breach}
use Rattle.master.specs.declared.Answer.{Answer}
use Rattle.master.specs.declared.Answer.TheVariants.{Nothing, Status, Assigned, At, LoggedIn}
use Rattle.master.specs.declared.Turned.{Turned}

-- the kinds: nothing more to tell; a status; size code, partition number, control, volume; volume and sector; number, name found, and
-- the number in the four serial bytes; was a turn due, did it end in a logout; the length of a frame written; the code of a frame read; how many
-- bits a frame of the line has; the user number and the length of a frame of the line; the honor flag of a login
pub data Answered : Type 0 where
  no_bytes : Answered
  status_byte : ℕ → Answered
  assign_bytes : ℕ → ℕ → ℕ → ℕ → Answered
  place_at : ℕ → ℕ → Answered
  login_as : ℕ → Bool → ℕ → Answered
  turn_was : Bool → Bool → Answered
  frame_made : ℕ → Answered
  request_of : ℕ → Answered
  bits_of : ℕ → Answered
  line_of : ℕ → ℕ → Answered
  honor_flag : ℕ → Answered

-- a refusal by its number; refusal 10 with part, row and breach, which are no answer; an answer
pub data Told : Type 0 where
  refuses : ℕ → Told
  refuses_site : ℕ → ℕ → ℕ → Told
  answers : Answered → Told

-- the number of the refusal, 0 for none
unfoldable pub refusal_number : Told → ℕ
refusal_number (refuses k) = k
refusal_number (refuses_site part row breach) = 10
refusal_number (answers a) = 0

-- refused with k; or, with 0 for none, answered with a
abbrev pub answers_unless : ℕ → Answered → Told
answers_unless k a = cond (eqb k 0) (answers a) (refuses k)

-- what a fault tells
unfoldable pub fault_told : Fault → Told
fault_told x = refuses_site (fault_part x) (fault_row x) (fault_breach x)

-- what a frame tells, answered or refused
unfoldable pub told : Result Answer Refused → Told
told (Ok Nothing) = answers no_bytes
told (Ok (Status s)) = answers (status_byte (byte_of s))
told (Ok (Assigned size partition control volume)) = answers (assign_bytes size partition.0 control volume.0)
told (Ok (At p)) = answers (place_at p.volume.0 p.sector)
told (Ok (LoggedIn number found serial)) = answers (login_as number found serial)
told (Err (Site x)) = fault_told x
told (Err (By r)) = refuses (number r)

-- what an entry tells that is done or refused, and no more
unfoldable pub done_told : Result (Unit {0}) Refusal → Told
done_told (Ok u) = answers no_bytes
done_told (Err r) = refuses (number r)

-- what a poll turn tells
unfoldable pub turn_told : Result Turned Refusal → Told
turn_told (Ok t) = answers (turn_was t.due t.out)
turn_told (Err r) = refuses (number r)
