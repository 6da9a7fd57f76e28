-- The rules of a site file. Any breach is refusal 10.
use Rattle.std.specs.Prelude.{ℕ, ◌+◌, ◌-◌, ◌*◌, ◌^◌, Bool, not, ◌&&◌, List, eqb, leb, ltb, length}
use Rattle.rows.specs.Words.{all, any, zeros}
use Rattle.terms.specs.Names.{same_name}
use Rattle.terms.specs.declared.Volume.{Volume}
use Rattle.terms.specs.declared.Partition.{Partition}
use Rattle.site.specs.declared.PartitionRow.{PartitionRow}
use Rattle.site.specs.Layout.{users, user_offset, partitions, partition_offset, users_from, partitions_from, whole_length, name_at, partition_row, partition_spare}

-- at most 128 users and 64 partitions; the user offset is 8, the partition offset is 8 + 16 × users; the file ends right after the last row
unfoldable pub good_header : List ℕ → Bool
good_header f =
    leb (users f) 128
    && (leb (partitions f) 64
    && (eqb (user_offset f) users_from
    && (eqb (partition_offset f) (partitions_from f)
    && eqb (length f) (whole_length f))))

-- the row with index i has this name
unfoldable pub named_at : List ℕ → ℕ → ℕ → List ℕ → ℕ → Bool
named_at f from w name i = same_name (name_at f from w i) name

abbrev pub user_named : List ℕ → List ℕ → ℕ → Bool
user_named f name i = named_at f users_from 16 name i

abbrev pub partition_named : List ℕ → List ℕ → ℕ → Bool
partition_named f name i = named_at f (partitions_from f) 24 name i

-- no earlier row has the name of row i
unfoldable pub name_alone : List ℕ → ℕ → ℕ → ℕ → Bool
name_alone f from w i = not (any (named_at f from w (name_at f from w i)) i)

-- no two users share a name
abbrev pub good_user : List ℕ → ℕ → Bool
good_user f i = name_alone f users_from 16 i

-- code n has 16 × 2^(n−1) tracks of 128 sectors
unfoldable pub tracks : ℕ → ℕ
tracks n = 16 * 2 ^ (n - 1)

unfoldable pub sectors : ℕ → ℕ
sectors n = tracks n * 128

-- volumes 0 to 3, partition numbers 0 to 63, size codes 1 to 6; first sector plus sectors is at most 1,048,576
unfoldable pub ranged : PartitionRow → Bool
ranged r =
    leb r.volume.0 3
    && (leb r.partition.0 63
    && (leb 1 r.size
    && (leb r.size 6
    && leb (r.first + sectors r.size) 1048576)))

-- the row has this volume and number
unfoldable pub numbered : Volume → Partition → PartitionRow → Bool
numbered v p r = eqb r.volume.0 v.0 && eqb r.partition.0 p.0

unfoldable pub partition_numbered : List ℕ → Volume → Partition → ℕ → Bool
partition_numbered f v p i = numbered v p (partition_row f i)

-- no earlier row has both volume and number of row i
unfoldable pub number_alone : List ℕ → ℕ → Bool
number_alone f i = not (any (partition_numbered f (partition_row f i).volume (partition_row f i).partition) i)

-- each begins before the other ends
unfoldable pub meet : PartitionRow → PartitionRow → Bool
meet r s = ltb r.first (s.first + sectors s.size) && ltb s.first (r.first + sectors r.size)

-- the two are on one volume and overlap
unfoldable pub overlap : PartitionRow → PartitionRow → Bool
overlap r s = eqb r.volume.0 s.volume.0 && meet r s

unfoldable pub partitions_overlap : List ℕ → ℕ → ℕ → Bool
partitions_overlap f i j = overlap (partition_row f i) (partition_row f j)

-- the row by itself: in range, and two zero bytes
unfoldable pub sound : List ℕ → ℕ → Bool
sound f i = ranged (partition_row f i) && zeros (partition_spare f i)

-- no two on one volume overlap
unfoldable pub apart : List ℕ → ℕ → Bool
apart f i = not (any (partitions_overlap f i) i)

-- no two partitions share a name, or both volume and number; no two on one volume overlap
unfoldable pub good_partition : List ℕ → ℕ → Bool
good_partition f i = sound f i && (name_alone f (partitions_from f) 24 i && (number_alone f i && apart f i))

unfoldable pub good_site : List ℕ → Bool
good_site f = good_header f && (all (good_user f) (users f) && all (good_partition f) (partitions f))
