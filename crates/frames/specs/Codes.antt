-- The codes as a type, and the bytes that they are.
use Rattle.std.specs.Prelude.{ℕ, ◌≡◌, Result, Ok, Err}
use Rattle.refusals.specs.declared.Refusal.{Refusal}
use Rattle.refusals.specs.declared.Refusal.TheVariants.{UnknownCode}
use Rattle.frames.specs.declared.code.Code.{Code}
use Rattle.frames.specs.declared.code.Code.TheVariants.{Acknowledge, Read, Write, Login, Assign, Lock, Unlock, Clear, Logout}
use Rattle.frames.specs.Table.{ACKNOWLEDGE, READ, WRITE, LOGIN, ASSIGN, LOCK, UNLOCK, CLEAR, LOGOUT, frame_length}

abbrev pub byte_of : Code → ℕ
byte_of Acknowledge = ACKNOWLEDGE
byte_of Read = READ
byte_of Write = WRITE
byte_of Login = LOGIN
byte_of Assign = ASSIGN
byte_of Lock = LOCK
byte_of Unlock = UNLOCK
byte_of Clear = CLEAR
byte_of Logout = LOGOUT

-- the code that a byte is, or 3 for a byte that is not in the frame table
abbrev pub Decodes : ℕ → Result Code Refusal → Type 0
Decodes b (Ok c) = b ≡ byte_of c
Decodes b (Err r) = (frame_length b ≡ 0) × (r ≡ UnknownCode)
