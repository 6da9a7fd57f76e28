-- Where things stand in a site file. Little-endian.
use Rattle.std.specs.Prelude.{ℕ, ◌+◌, ◌*◌, List, get_or}
use Rattle.rows.specs.Rows.{part}
use Rattle.rows.specs.Numbers.{low_first}
use Rattle.site.specs.declared.PartitionRow.{PartitionRow}

-- a header of four 16-bit numbers
unfoldable pub users : List ℕ → ℕ
users f = low_first (part f 0 2)

unfoldable pub user_offset : List ℕ → ℕ
user_offset f = low_first (part f 2 2)

unfoldable pub partitions : List ℕ → ℕ
partitions f = low_first (part f 4 2)

unfoldable pub partition_offset : List ℕ → ℕ
partition_offset f = low_first (part f 6 2)

-- user rows of 16 bytes begin after the header, partition rows of 24 after them, and the file ends after the last row
abbrev pub users_from : ℕ
users_from = 8

abbrev pub partitions_from : List ℕ → ℕ
partitions_from f = 8 + 16 * users f

abbrev pub whole_length : List ℕ → ℕ
whole_length f = 8 + 16 * users f + 24 * partitions f

-- name 8, password 6 of the row of w bytes with index i, where the rows begin at `from`
unfoldable pub name_at : List ℕ → ℕ → ℕ → ℕ → List ℕ
name_at f from w i = part f (from + w * i) 8

unfoldable pub password_at : List ℕ → ℕ → ℕ → ℕ → List ℕ
password_at f from w i = part f (from + w * i + 8) 6

abbrev pub user_password : List ℕ → ℕ → List ℕ
user_password f i = password_at f users_from 16 i

abbrev pub partition_password : List ℕ → ℕ → List ℕ
partition_password f i = password_at f (partitions_from f) 24 i

-- after them: volume, partition number, size code, control, first sector (4); the row begins at `at`
unfoldable pub row_at : List ℕ → ℕ → PartitionRow
row_at f at = record {
  volume = record { 0 = get_or f (at + 14) 0 };
  partition = record { 0 = get_or f (at + 15) 0 };
  size = get_or f (at + 16) 0;
  control = get_or f (at + 17) 0;
  first = low_first (part f (at + 18) 4);
}

abbrev pub partition_row : List ℕ → ℕ → PartitionRow
partition_row f i = row_at f (partitions_from f + 24 * i)

-- two spare bytes
unfoldable pub spare_at : List ℕ → ℕ → List ℕ
spare_at f at = part f (at + 22) 2

abbrev pub partition_spare : List ℕ → ℕ → List ℕ
partition_spare f i = spare_at f (partitions_from f + 24 * i)
