-- What a lock or an unlock comes to, and the bytes of 02 for it.
use Rattle.std.specs.Prelude.{ℕ, ◌≡◌, Result, Ok, Err}
use Rattle.terms.specs.declared.Status.{Status}
use Rattle.terms.specs.declared.Status.TheVariants.{Granted, NotYours, HeldByAnother, AlreadyYours, NoRoom}

abbrev pub byte_of : Status → ℕ
byte_of Granted = 0x00
byte_of HeldByAnother = 0x01
byte_of NotYours = 0x02
byte_of AlreadyYours = 0x81
byte_of NoRoom = 0x82

-- the status of a byte; one that is no status comes back
abbrev pub StatusOf : ℕ → Result Status ℕ → Type 0
StatusOf b (Ok s) = byte_of s ≡ b
StatusOf b (Err e) = (e ≡ b) × ((s : Status) → byte_of s ≡ b → ⊥)
