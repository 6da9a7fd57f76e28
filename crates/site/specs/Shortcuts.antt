-- What the checks keep of the rows that went by, so as to compare a row with them only where it must be, and the words of the check's
-- inner contracts. No rule names these words.
use Rattle.std.specs.Prelude.{ℕ, ◌+◌, ◌*◌, ◌/◌, ◌%◌, ◌<◌, max, Bool, cond, List, Result, Ok, Err, leb, ltb, get_or, set}
use Rattle.rows.specs.Marks.{hash}
use Rattle.rows.specs.Words.{first, fails}
use Rattle.terms.specs.Shortcuts.{name_solid}
use Rattle.site.specs.declared.PartitionRow.{PartitionRow}
use Rattle.site.specs.declared.Fault.TheVariants.{InPartition}
use Rattle.site.specs.declared.Fault.{Fault}
use Rattle.site.specs.Layout.{partitions, partitions_from, partition_row}
use Rattle.site.specs.Faults.{breach_at, first_partition}
use Rattle.site.specs.Rules.{sectors, sound, name_alone, number_alone, apart}

-- the hash of a name; of volume and number of partition row i
unfoldable pub name_hash : List ℕ → ℕ
name_hash name = hash (name_solid name % 4294967296) (name_solid name / 4294967296) 0 0

unfoldable pub number_hash : List ℕ → ℕ → ℕ
number_hash f i = (64 * (partition_row f i).volume.0 + (partition_row f i).partition.0) % 256

-- where a partition row ends
abbrev pub end_of : PartitionRow → ℕ
end_of r = r.first + sectors r.size

-- `ends` has for each volume how far its rows have reached: the row begins there or later; the row's end taken in
unfoldable pub past : List ℕ → PartitionRow → Bool
past ends r = leb (get_or ends r.volume.0 0) r.first

unfoldable pub passing : List ℕ → PartitionRow → List ℕ
passing ends r = set ends r.volume.0 (max (get_or ends r.volume.0 0) (end_of r))

-- each entry of an order is one of n rows
abbrev pub Below : ℕ → List ℕ → Type 0
Below n order = (k : ℕ) → 0 < n → get_or order k 0 < n

-- the partition rows that are left after each rule: those before the first that breaks it or a rule before it
unfoldable pub left_by_range : List ℕ → ℕ
left_by_range f = first (fails (sound f)) (partitions f)

unfoldable pub left_by_name : List ℕ → ℕ
left_by_name f = first (fails (name_alone f (partitions_from f) 24)) (left_by_range f)

unfoldable pub left_by_number : List ℕ → ℕ
left_by_number f = first (fails (number_alone f)) (left_by_name f)

unfoldable pub left_by_overlap : List ℕ → ℕ
left_by_overlap f = first (fails (apart f)) (left_by_number f)

-- the partition rows by themselves: all good, or the first that is not
unfoldable pub checked_partitions : List ℕ → Result (Unit {0}) Fault
checked_partitions f =
    cond (ltb (first_partition f) (partitions f))
    (Err (InPartition (first_partition f) (breach_at f (first_partition f))))
    (Ok tt)
