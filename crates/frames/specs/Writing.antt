-- Writing a request: its frame, what is answered, and what the buffer then holds.
use Rattle.std.specs.Prelude.{ℕ, cond, List, [], ◌∷◌, ◌++◌, ltb, length, Result}
use Rattle.refusals.specs.declared.Refusal.{Refusal}
use Rattle.refusals.specs.Outcomes.{LeavesUnless}
use Rattle.rows.specs.Rows.{over}
use Rattle.rows.specs.Numbers.{low_bytes}
use Rattle.terms.specs.declared.Address.{Address}
use Rattle.terms.specs.Strings.{string_bytes}
use Rattle.frames.specs.declared.Command.{Command}
use Rattle.frames.specs.declared.Command.TheVariants.{Acknowledge, Read, Write, Login, Assign, Lock, Unlock, Clear, Logout}
use Rattle.frames.specs.declared.Request.{Request}
use Rattle.frames.specs.Table.{ACKNOWLEDGE, READ, WRITE, LOGIN, ASSIGN, LOCK, UNLOCK, CLEAR, LOGOUT}

-- what writing gives: a refusal and 0, or 0 and the length of the frame
pub record Written : Type 0 where
  pub refusal : ℕ
  pub length : ℕ

-- dtn, src, dsk, trk (2), sec, vli
unfoldable pub address_fields : ℕ → Address → List ℕ
address_fields src a = 0 ∷ src ∷ a.partition.0 ∷ (low_bytes 2 a.track.0 ++ (a.sector.0 ∷ a.volume.0 ∷ []))

-- name 8, password 6
unfoldable pub named_fields : Request → List ℕ
named_fields q = q.name ++ q.password

-- name 8, password 6, serial 4, product 1
unfoldable pub login_fields : Request → ℕ → List ℕ
login_fields q product = q.name ++ (q.password ++ (q.serial ++ (product ∷ [])))

unfoldable pub code_of : Command → ℕ
code_of Acknowledge = ACKNOWLEDGE
code_of (Read src a) = READ
code_of (Write src a) = WRITE
code_of (Login product) = LOGIN
code_of Assign = ASSIGN
code_of Lock = LOCK
code_of Unlock = UNLOCK
code_of Clear = CLEAR
code_of (Logout src) = LOGOUT

-- the fields after the code
unfoldable pub fields_of : Command → Request → List ℕ
fields_of Acknowledge q = []
fields_of (Read src a) q = address_fields src a
fields_of (Write src a) q = address_fields src a
fields_of (Login product) q = login_fields q product
fields_of Assign q = named_fields q
fields_of Lock q = string_bytes q.string
fields_of Unlock q = string_bytes q.string
fields_of Clear q = []
fields_of (Logout src) q = src ∷ []

unfoldable pub frame_of : Request → List ℕ
frame_of q = code_of q.command ∷ fields_of q.command q

-- 13 exactly when the buffer, of n bytes, is shorter than the frame; otherwise the frame's length
unfoldable pub written_of : Request → ℕ → Written
written_of q n =
    cond (ltb n (length (frame_of q)))
    (record { refusal = 13; length = 0 })
    (record { refusal = 0; length = length (frame_of q) })

-- the frame stands at the start and the bytes after it stay; nothing changes where it does not fit
unfoldable pub buffer_after : Request → List ℕ → List ℕ
buffer_after q b = cond (ltb (length b) (length (frame_of q))) b (over (frame_of q) b)

-- a call that writes a request into the buffer b
abbrev pub Writes : Request → List ℕ → Result ℕ Refusal → List ℕ → Type 0
Writes q b = LeavesUnless (written_of q (length b)).refusal (written_of q (length b)).length (buffer_after q b)
