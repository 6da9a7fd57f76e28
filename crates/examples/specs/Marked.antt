-- 01's marked examples as one table. Bytes are written as they stand in frames and files.
use Rattle.std.specs.Prelude.{ℕ, zero, suc, true, false, List, [], ◌∷◌, ◌++◌, replicate}
use Rattle.rows.specs.Rows.{set_row}
use Rattle.rows.specs.Numbers.{low_bytes}
use Rattle.who.specs.Logins.{fresh_records}
use Rattle.locks.specs.Good.{fresh_locks}
use Rattle.master.specs.Answers.{Told, refuses, refuses_site, answers, status_byte, place_at, login_as, turn_was}
use Rattle.examples.specs.Play.{Line, frame, poll, Example}

-- a partition row with a name of one letter and no password, of size 1: volume, partition number, first sector
unfoldable pub partition : ℕ → ℕ → ℕ → ℕ → List ℕ
partition letter v p first = letter ∷ (replicate 13 0 ++ (v ∷ p ∷ 1 ∷ 0 ∷ (low_bytes 4 first ++ (0 ∷ 0 ∷ []))))

-- site files without users: none, one and two partitions
unfoldable pub header : ℕ → List ℕ
header n = 0 ∷ 0 ∷ 8 ∷ 0 ∷ n ∷ 0 ∷ 8 ∷ 0 ∷ []

unfoldable pub empty : List ℕ
empty = header 0

unfoldable pub one : List ℕ
one = header 1 ++ partition 65 1 0 2048

unfoldable pub two : ℕ → List ℕ
two first = header 2 ++ (partition 65 1 0 2048 ++ partition 66 1 1 first)

-- a read by user 0; volume and partition, track and sector
unfoldable pub reads : ℕ → ℕ → ℕ → ℕ → Told → Line
reads v p track sector told = frame 0 (0x11 ∷ 0 ∷ 0 ∷ p ∷ track ∷ 0 ∷ sector ∷ v ∷ []) told

-- user n locks and unlocks
unfoldable pub locks : ℕ → List ℕ → ℕ → Line
locks n string status = frame n (0x19 ∷ string) (answers (status_byte status))

unfoldable pub unlocks : ℕ → List ℕ → ℕ → Line
unlocks n string status = frame n (0x1A ∷ string) (answers (status_byte status))

-- somebody logs in, and is user 1
unfoldable pub logs_in : Line
logs_in = frame 253 (0x13 ∷ replicate 19 0) (answers (login_as 1 false 0))

-- a length, and thirteen bytes that begin with these two
unfoldable pub string : ℕ → ℕ → ℕ → List ℕ
string len a b = len ∷ a ∷ b ∷ replicate 11 0

abbrev pub A : ℕ
A = 65

abbrev pub B : ℕ
B = 66

-- n used rows of user 0: the strings of A and a number below n
unfoldable pub used : ℕ → List ℕ
used zero = []
used (suc n) = 0 ∷ (string 2 A n ++ (0 ∷ used n))

-- frames over fresh tables
unfoldable pub fresh : List ℕ → List Line → Example
fresh site lines = record { site = site; locks = fresh_locks; stations = fresh_records; lines = lines }

-- user 1 is logged in, with misses 255 and slow turns 11
unfoldable pub silent : List ℕ
silent = set_row 18 fresh_records 1 (1 ∷ 255 ∷ 0 ∷ 11 ∷ replicate 14 0)

unfoldable pub marked : List Example
marked =
    -- track 0 sector 1, track 15 sector 128; the same numbers with volume 0, partition 1 and no such row
    fresh one (
    reads 1 0 0 1 (answers (place_at 1 2048))
    ∷ reads 1 0 15 128 (answers (place_at 1 4095))
    ∷ reads 0 1 0 1 (refuses 8)
    ∷ reads 0 1 15 128 (refuses 8)
    ∷ [])
    -- a second row at 4096 is good, at 4095 the file is refused: partition row 1 overlaps
    ∷ fresh (two 4096) (reads 1 1 0 1 (answers (place_at 1 4096)) ∷ [])
    ∷ fresh (two 4095) (reads 1 1 0 1 (refuses_site 2 1 4) ∷ [])
    -- lengths 0, 14 and 13
    ∷ fresh empty (locks 0 (string 0 A B) 0x02 ∷ locks 0 (string 14 A B) 0x02 ∷ locks 0 (string 13 A B) 0x00 ∷ [])
    -- 64 rows used: a new string, the sender's own, another's, length 0
    ∷ record {
      site = empty;
      locks = used 64;
      stations = fresh_records;
      lines =
          logs_in
          ∷ locks 0 (string 2 B 0) 0x82
          ∷ locks 0 (string 2 A 5) 0x81
          ∷ locks 1 (string 2 A 5) 0x01
          ∷ locks 0 (string 0 A 5) 0x02
          ∷ [];
    }
    -- own lock, relock, unlock, unlock, with another's unlock while it is held
    ∷ fresh empty (
    logs_in
    ∷ locks 1 (string 1 A 0) 0x00
    ∷ locks 1 (string 1 A 0) 0x81
    ∷ unlocks 0 (string 1 A 0) 0x02
    ∷ unlocks 1 (string 1 A 0) 0x00
    ∷ unlocks 1 (string 1 A 0) 0x02
    ∷ [])
    -- "AB", then "A" followed by a stray B: another string; then "A" with another byte after it: the same
    ∷ fresh empty (locks 0 (string 2 A B) 0x00 ∷ locks 0 (string 1 A B) 0x00 ∷ locks 0 (string 1 A 9) 0x81 ∷ [])
    -- misses 255, slow turns 11, not heard: out; it is nobody then, and its lock is free
    ∷ record {
      site = empty;
      locks = set_row 16 fresh_locks 0 (1 ∷ (string 1 A 0 ++ (0 ∷ [])));
      stations = silent;
      lines =
          poll 1 false (answers (turn_was true true))
          ∷ frame 1 (0x19 ∷ string 1 A 0) (refuses 2)
          ∷ locks 0 (string 1 A 0) 0x00
          ∷ [];
    }
    ∷ []
