-- What each frame does. n is the number polled, q the request, s the site file, t and w the tables.
use Rattle.std.specs.Prelude.{ℕ, zero, suc, Bool, false, cond, not, ◌&&◌, ◌||◌, List, Result, eqb, ltb}
use Rattle.rows.specs.Words.{same, zeros}
use Rattle.rows.specs.Numbers.{low_first}
use Rattle.frames.specs.declared.Command.{Command}
use Rattle.frames.specs.declared.Command.TheVariants.{Acknowledge, Read, Write, Login, Assign, Lock, Unlock, Clear, Logout}
use Rattle.frames.specs.declared.Request.{Request}
use Rattle.frames.specs.Reading.{request_in}
use Rattle.site.specs.declared.PartitionRow.{PartitionRow}
use Rattle.site.specs.declared.Refused.{Refused}
use Rattle.site.specs.Layout.{partitions, partition_row, partition_password}
use Rattle.site.specs.Faults.{first_fault}
use Rattle.site.specs.Found.{has_user, index_of_name}
use Rattle.site.specs.Places.{Placed, placed_in}
use Rattle.who.specs.Good.{numbers}
use Rattle.who.specs.Logins.{has_serial, lowest_number, logged_in_as, after_login, after_logout}
use Rattle.locks.specs.Table.{lock_status, lock_table, unlock_status, unlock_table, cleared_table}
use Rattle.master.specs.Answers.{Told, refuses, answers, fault_told, told, no_bytes, status_byte, assign_bytes, place_at, login_as, answers_unless}
use Rattle.master.specs.declared.Answer.{Answer}
use Rattle.master.specs.Refusals.{refusal}
use Rattle.master.specs.Effects.{Effect, telling, afterwards, unless_told, Does}

-- read, write: the place. Its refusals 8 and 9 stand among the tests of a frame
unfoldable pub place_told : Placed → Told
place_told p = answers_unless p.refusal (place_at p.place.volume.0 p.place.sector)

-- login: the number given is the lowest free one from 1 to 63, or 0 where all 63 are in use
unfoldable pub number_given : List ℕ → ℕ
number_given w = cond (ltb (lowest_number w) numbers) (lowest_number w) 0

unfoldable pub name_found : Request → List ℕ → Bool
name_found q s = has_user s q.name q.password

-- number, name found, and the serial as sent; number 0 and no where none is given
unfoldable pub login_effect : Request → ℕ → List ℕ → List ℕ → List ℕ → Effect (List ℕ)
login_effect q product s t w =
    cond (eqb (number_given w) 0)
    (telling (answers (login_as 0 false (low_first q.serial))) t w)
    (telling (answers (login_as (number_given w) (name_found q s) (low_first q.serial)))
    t (after_login w (number_given w) (logged_in_as q.name q.serial product (name_found q s))))

-- assign: the row with that name, if its password is equal or the sent password is six zeros; otherwise FF 00 00 00
unfoldable pub row_answer : PartitionRow → Told
row_answer r = answers (assign_bytes r.size r.partition.0 r.control r.volume.0)

unfoldable pub assignable : Request → List ℕ → Bool
assignable q s =
    ltb (index_of_name s q.name) (partitions s)
    && (zeros q.password || same (partition_password s (index_of_name s q.name)) q.password)

unfoldable pub assign_answer : Request → List ℕ → Told
assign_answer q s =
    cond (assignable q s)
    (row_answer (partition_row s (index_of_name s q.name)))
    (answers (assign_bytes 0xFF 0 0 0))

-- logout: the sender's rows are freed and its record is cleared
unfoldable pub logout_effect : ℕ → List ℕ → List ℕ → Effect (List ℕ)
logout_effect n t w = telling (answers no_bytes) (cleared_table t n) (after_logout w n)

-- the logouts of those numbers below k that p names, one after the other
unfoldable pub logouts_below : ℕ → (ℕ → Bool) → List ℕ → List ℕ → Effect (List ℕ)
logouts_below zero p t w = telling (answers no_bytes) t w
logouts_below (suc k) p t w = let e = logouts_below k p t w in cond (p k) (afterwards e (logout_effect k)) e

-- 02, Req 02: a login first logs out every number that is logged in with its serial; serial 00 00 00 00 is excepted
unfoldable pub excepted : List ℕ → Bool
excepted serial = zeros serial

unfoldable pub starts_again : List ℕ → List ℕ → ℕ → Bool
starts_again serial w n = not (excepted serial) && has_serial w serial n

unfoldable pub old_logouts : List ℕ → List ℕ → List ℕ → Effect (List ℕ)
old_logouts serial t w = logouts_below numbers (starts_again serial w) t w

-- what each command does
unfoldable pub effect_of : Command → Request → ℕ → List ℕ → List ℕ → List ℕ → Effect (List ℕ)
effect_of Acknowledge q n s t w = telling (answers no_bytes) t w
effect_of (Read src a) q n s t w = telling (place_told (placed_in s a)) t w
effect_of (Write src a) q n s t w = telling (place_told (placed_in s a)) t w
effect_of (Login product) q n s t w = afterwards (old_logouts q.serial t w) (login_effect q product s)
effect_of Assign q n s t w = telling (assign_answer q s) t w
effect_of Lock q n s t w = telling (answers (status_byte (lock_status t n q.string))) (lock_table t n q.string) w
effect_of Unlock q n s t w = telling (answers (status_byte (unlock_status t n q.string))) (unlock_table t n q.string) w
effect_of Clear q n s t w = telling (answers (status_byte 0x00)) (cleared_table t n) w
effect_of (Logout src) q n s t w = logout_effect n t w

unfoldable pub request_effect : Request → ℕ → List ℕ → List ℕ → List ℕ → Effect (List ℕ)
request_effect q n s t w = effect_of q.command q n s t w

-- what a refusal tells: its number, and 10 the first fault of the site file
unfoldable pub refusal_told : List ℕ → ℕ → Told
refusal_told s k = cond (eqb k 10) (fault_told (first_fault s)) (refuses k)

-- one frame f at the number n: refused, and all as it was, or served
unfoldable pub frame_effect : ℕ → List ℕ → List ℕ → List ℕ → List ℕ → Effect (List ℕ)
frame_effect n f s t w = unless_told (refusal n f s t w) (refusal_told s (refusal n f s t w)) t w (request_effect (request_in f) n s t w)

-- what serving a frame gives and leaves, whole
abbrev pub Serves : ℕ → List ℕ → List ℕ → List ℕ → List ℕ → Result Answer Refused → List ℕ → List ℕ → Type 0
Serves n f s t w r = Does (frame_effect n f s t w) (told r)
