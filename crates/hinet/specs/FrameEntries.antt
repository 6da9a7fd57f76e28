-- What the entries that write and read one request frame return and leave. b is the buffer, f the frame.
use Rattle.std.specs.Prelude.{ℕ, min, List, length, replicate}
use Rattle.rows.specs.Outcomes.{Leaves}
use Rattle.terms.specs.declared.Address.{Address}
use Rattle.terms.specs.declared.LockString.{LockString}
use Rattle.frames.specs.declared.Command.{Command}
use Rattle.frames.specs.declared.Command.TheVariants.{Login, Logout}
use Rattle.frames.specs.declared.Request.{Request}
use Rattle.frames.specs.Requests.{no_string, plain}
use Rattle.frames.specs.Reading.{code, refusal_of}
use Rattle.frames.specs.Writing.{written_of, buffer_after}
use Rattle.master.specs.Answers.{Told, frame_made, request_of, answers_unless}
use Rattle.hinet.specs.Packing.{word}
use Rattle.hinet.specs.Entries.{address_of}

-- a number that does not fit its field is the largest that does: nobody's src, no row's volume or partition, and a track and a sector
-- outside of every partition
abbrev pub byte_field : ℕ → ℕ
byte_field n = min n 255

unfoldable pub fields_for : ℕ → ℕ → ℕ → ℕ → Address
fields_for v p t x = address_of (byte_field v) (byte_field p) (min t 65535) (byte_field x)

-- the request of each entry. A read or a write, which c makes, of numbers
unfoldable pub disk_of : (ℕ → Address → Command) → ℕ → ℕ → ℕ → ℕ → ℕ → Request
disk_of c src v p t x = plain (c (byte_field src) (fields_for v p t x))

unfoldable pub logout_of : ℕ → Request
logout_of src = plain (Logout (byte_field src))

-- a command with name and password, and a login
unfoldable pub named_of : Command → List ℕ → List ℕ → Request
named_of c name password = record { command = c; name = name; password = password; serial = replicate 4 0; string = no_string }

unfoldable pub login_of : List ℕ → List ℕ → List ℕ → ℕ → Request
login_of name password serial product = record { command = Login product; name = name; password = password; serial = serial; string = no_string }

-- a lock or an unlock of the string s
unfoldable pub string_of : Command → LockString → Request
string_of c s = record { command = c; name = replicate 8 0; password = replicate 6 0; serial = replicate 4 0; string = s }

-- a frame, or a block of disk parameters, written tells its length; or it is refused, 0 for none
abbrev pub frame_told : ℕ → ℕ → Told
frame_told k l = answers_unless k (frame_made l)

-- the request q written: the word of that, and the buffer with the frame at its start or as it was
abbrev pub Composes : Request → List ℕ → ℕ → List ℕ → Type 0
Composes q b = Leaves (word (frame_told (written_of q (length b)).refusal (written_of q (length b)).length)) (buffer_after q b)

-- a frame read tells its code; 1, 3, 4 or 6 where it does not read well
unfoldable pub read_told : List ℕ → Told
read_told f = answers_unless (refusal_of f) (request_of (code f))

unfoldable pub read_word : List ℕ → ℕ
read_word f = word (read_told f)
