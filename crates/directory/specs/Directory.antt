-- The system directory of 001: rows of 24 bytes, a row a file. Name 8, disk address 5, length 2, load address 4, offset of the
-- execution address 2, program or data 1, reserved 2. Numbers have their low byte first. t is the directory.
use Rattle.std.specs.Prelude.{ℕ, ◌+◌, ◌*◌, ◌/◌, Bool, not, ◌&&◌, List, length, replicate}
use Rattle.rows.specs.Words.{any, first, same}
use Rattle.rows.specs.Rows.{part, begins}
use Rattle.rows.specs.Numbers.{low_first}

unfoldable pub files : List ℕ → ℕ
files t = length t / 24

-- the length of file i, in sectors of 128 bytes
unfoldable pub file_length : List ℕ → ℕ → ℕ
file_length t i = low_first (part t (24 * i + 13) 2)

-- its row without the name: 16 bytes
unfoldable pub file_entry : List ℕ → ℕ → List ℕ
file_entry t i = part t (24 * i + 8) 16

-- a null name: eight zeros
unfoldable pub null_name : List ℕ
null_name = replicate 8 0

-- file i has this name, byte by byte. A null name is in no directory: the row that marks its end has it too
unfoldable pub file_named : List ℕ → List ℕ → ℕ → Bool
file_named t name i = not (same name null_name) && begins 24 t name i

-- the first file with the name, and whether there is one
unfoldable pub file_of : List ℕ → List ℕ → ℕ
file_of t name = first (file_named t name) (files t)

unfoldable pub in_directory : List ℕ → List ℕ → Bool
in_directory t name = any (file_named t name) (files t)
