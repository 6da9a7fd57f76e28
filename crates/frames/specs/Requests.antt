-- What a request is: its command, and of the byte fields beside it those that the command carries.
use Rattle.std.specs.Prelude.{replicate}
use Rattle.terms.specs.declared.LockString.{LockString}
use Rattle.frames.specs.declared.Command.{Command}
use Rattle.frames.specs.declared.Command.TheVariants.{Acknowledge, Read, Write, Login, Assign, Lock, Unlock, Clear, Logout}
use Rattle.frames.specs.declared.Request.{Request}

abbrev pub no_string : LockString
no_string = record { len = 0; bytes = replicate 13 0 }

-- a command that carries no byte fields
unfoldable pub plain : Command → Request
plain c = record { command = c; name = replicate 8 0; password = replicate 6 0; serial = replicate 4 0; string = no_string }

-- the request without the fields that its command c does not carry
unfoldable pub carried_by : Command → Request → Request
carried_by Acknowledge q = plain Acknowledge
carried_by (Read src a) q = plain (Read src a)
carried_by (Write src a) q = plain (Write src a)
carried_by (Login product) q = record { command = Login product; name = q.name; password = q.password; serial = q.serial; string = no_string }
carried_by Assign q = record { command = Assign; name = q.name; password = q.password; serial = replicate 4 0; string = no_string }
carried_by Lock q = record { command = Lock; name = replicate 8 0; password = replicate 6 0; serial = replicate 4 0; string = q.string }
carried_by Unlock q = record { command = Unlock; name = replicate 8 0; password = replicate 6 0; serial = replicate 4 0; string = q.string }
carried_by Clear q = plain Clear
carried_by (Logout src) q = plain (Logout src)

unfoldable pub carried : Request → Request
carried q = carried_by q.command q
