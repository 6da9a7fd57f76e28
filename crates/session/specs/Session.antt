-- A session: the records served one after the other, and a line for each.
use Rattle.std.specs.Prelude.{ℕ, zero, suc, ◌+◌, ◌≤◌, ◌≡◌, cond, List, [], ◌∷◌, ◌++◌, length, take, drop}
use Rattle.rows.specs.Rows.{over}
use Rattle.lines.specs.Line.{line_text, Writes}
use Rattle.session.specs.Records.{number, frame, record_size, whole}
use Rattle.master.specs.Effects.{Effect}
use Rattle.master.specs.Frames.{frame_effect}

-- where a session stands: the input still to play, the index of its first record, and the tables
pub record Stand : Type 0 where
  pub rest : List ℕ
  pub index : ℕ
  pub locks : List ℕ
  pub records : List ℕ

-- what playing gives: the lines, and where the session then stands
pub record Outcome : Type 0 where
  pub text : List ℕ
  pub stand : Stand

-- what the frame of the next record does, with the site file s
unfoldable pub served : List ℕ → Stand → Effect (List ℕ)
served s d = frame_effect (number d.rest) (frame d.rest) s d.locks d.records

-- the line of the next record, with the site file s, and where the session stands after it
unfoldable pub next_line : List ℕ → Stand → List ℕ
next_line s d = line_text d.index (number d.rest) (served s d).tells

unfoldable pub next : List ℕ → Stand → Stand
next s d = record {
  rest = drop (record_size d.rest) d.rest;
  index = d.index + 1;
  locks = (served s d).locks;
  records = (served s d).records;
}

-- nothing more is played
abbrev pub still : Stand → Outcome
still d = record { text = []; stand = d }

-- text, and then what p gives
abbrev pub after : List ℕ → Outcome → Outcome
after text p = record { text = text ++ p.text; stand = p.stand }

-- at most k whole records are played
unfoldable pub play_in : ℕ → List ℕ → Stand → Outcome
play_in zero s d = still d
play_in (suc k) s d = cond (whole d.rest) (after (next_line s d) (play_in k s (next s d))) (still d)

-- all of them: they are no more than the bytes of the input
unfoldable pub play : List ℕ → Stand → Outcome
play s d = play_in (length d.rest) s d

-- more input behind what is still to play
abbrev pub fed : Stand → List ℕ → Stand
fed d b = record { rest = d.rest ++ b; index = d.index; locks = d.locks; records = d.records }

-- the input comes in blocks, and what is not whole waits for the next one
unfoldable pub play_blocks : List (List ℕ) → List ℕ → Stand → Outcome
play_blocks [] s d = still d
play_blocks (b ∷ bs) s d = after (play s (fed d b)).text (play_blocks bs s (play s (fed d b)).stand)

-- a frame f served at the number n: its line is put down in the output o at `used`, and the line's end is answered
pub record Adds (i n : ℕ) (f s t w o : List ℕ) (used r : ℕ) (t' w' o' : List ℕ) : Type 0 where
  pub line : Writes (line_text i n (frame_effect n f s t w).tells) o used r o'
  pub locks : t' ≡ (frame_effect n f s t w).locks
  pub records : w' ≡ (frame_effect n f s t w).records

-- what was played of a block: its bytes up to `at`; the index of the next record; the bytes that its lines take
pub record Played : Type 0 where
  pub at : ℕ
  pub index : ℕ
  pub used : ℕ

-- a block of input f from record i on: its whole records are played, and their lines stand at the start of the output o.
-- The last three are said for the arithmetic of the caller
pub record Plays (f : List ℕ) (i : ℕ) (s t w o : List ℕ) (r : Played) (t' w' o' : List ℕ) : Type 0 where
  pub inside : r.at ≤ length f
  pub stand : record { rest = drop r.at f; index = r.index; locks = t'; records = w' } ≡ (play s (record { rest = f; index = i; locks = t; records = w })).stand
  pub used : r.used ≡ length (play s (record { rest = f; index = i; locks = t; records = w })).text
  pub output : o' ≡ over (play s (record { rest = f; index = i; locks = t; records = w })).text o
  pub room : r.used ≤ length o
  pub count : r.index ≤ i + length f
  pub short : length f ≤ r.at + 256

-- between two blocks the first bytes of the input wait, as many as were kept
abbrev pub between : List ℕ → ℕ → ℕ → List ℕ → List ℕ → Stand
between input kept i t w = record { rest = take kept input; index = i; locks = t; records = w }

-- a block was taken: some bytes were read, and the session goes on where playing them leaves it
pub record Takes (s : List ℕ) (d d' : Stand) : Type 0 where
  pub read : List ℕ
  pub stand : d' ≡ (play s (fed d read)).stand
