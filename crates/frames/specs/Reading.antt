-- Reading a frame: 1, 3, 4 or 6 in that order, or the request.
use Rattle.std.specs.Prelude.{ℕ, cond, not, ◌&&◌, List, eqb, length, get_or, replicate, Result}
use Rattle.refusals.specs.declared.Refusal.{Refusal}
use Rattle.refusals.specs.Outcomes.{GivesUnless}
use Rattle.rows.specs.Rows.{part}
use Rattle.rows.specs.Numbers.{low_first}
use Rattle.terms.specs.declared.Address.{Address}
use Rattle.terms.specs.Strings.{string_at}
use Rattle.frames.specs.declared.Command.{Command}
use Rattle.frames.specs.declared.Command.TheVariants.{Acknowledge, Read, Write, Login, Assign, Lock, Unlock, Clear, Logout}
use Rattle.frames.specs.declared.Request.{Request}
use Rattle.frames.specs.Table.{READ, WRITE, LOGIN, ASSIGN, LOCK, UNLOCK, CLEAR, LOGOUT, frame_length, carries_address}
use Rattle.frames.specs.Requests.{no_string, plain}

-- what reading gives: a refusal and nothing of a request, or 0 and the request
pub record Reading : Type 0 where
  pub refusal : ℕ
  pub request : Request

abbrev pub code : List ℕ → ℕ
code f = get_or f 0 0

-- 1 empty; 3 the code is not in the frame table; 4 the length differs from the table; 6 dtn is not 0; 0 none of these
unfoldable pub refusal_of : List ℕ → ℕ
refusal_of f =
    cond (eqb (length f) 0) 1
    (cond (eqb (frame_length (code f)) 0) 3
    (cond (not (eqb (length f) (frame_length (code f)))) 4
    (cond (carries_address (code f) && not (eqb (get_or f 1 0) 0)) 6
    0)))

-- code, dtn, src, dsk, trk (2), sec, vli
unfoldable pub address_in : List ℕ → Address
address_in f = record {
  volume = record { 0 = get_or f 7 0 };
  partition = record { 0 = get_or f 3 0 };
  track = record { 0 = low_first (part f 4 2) };
  sector = record { 0 = get_or f 6 0 };
}

-- code, name 8, password 6
unfoldable pub named_in : Command → List ℕ → Request
named_in c f = record { command = c; name = part f 1 8; password = part f 9 6; serial = replicate 4 0; string = no_string }

-- code, name 8, password 6, serial 4, product 1
unfoldable pub login_in : List ℕ → Request
login_in f = record { command = Login (get_or f 19 0); name = part f 1 8; password = part f 9 6; serial = part f 15 4; string = no_string }

-- code, len 1, string 13
unfoldable pub string_request : Command → List ℕ → Request
string_request c f = record {
  command = c;
  name = replicate 8 0;
  password = replicate 6 0;
  serial = replicate 4 0;
  string = string_at f 1;
}

-- the request of a frame that is not refused
unfoldable pub request_in : List ℕ → Request
request_in f =
    cond (eqb (code f) READ) (plain (Read (get_or f 2 0) (address_in f)))
    (cond (eqb (code f) WRITE) (plain (Write (get_or f 2 0) (address_in f)))
    (cond (eqb (code f) LOGIN) (login_in f)
    (cond (eqb (code f) ASSIGN) (named_in Assign f)
    (cond (eqb (code f) LOCK) (string_request Lock f)
    (cond (eqb (code f) UNLOCK) (string_request Unlock f)
    (cond (eqb (code f) CLEAR) (plain Clear)
    (cond (eqb (code f) LOGOUT) (plain (Logout (get_or f 1 0)))
    (plain Acknowledge))))))))

-- nothing of a request remains where the frame is refused
unfoldable pub reading_of : List ℕ → Reading
reading_of f =
    cond (eqb (refusal_of f) 0)
    (record { refusal = 0; request = request_in f })
    (record { refusal = refusal_of f; request = plain Acknowledge })

-- a call that reads a frame
abbrev pub Reads : List ℕ → Result Request Refusal → Type 0
Reads f = GivesUnless (reading_of f).refusal (reading_of f).request
