-- The faults of a site file, and the first of them (02, Req 01).
use Rattle.std.specs.Prelude.{ℕ, ◌≡◌, Bool, true, false, cond, not, ◌&&◌, ◌||◌, List, Result, Ok, Err, eqb, ltb}
use Rattle.rows.specs.Words.{first, fails}
use Rattle.site.specs.declared.Breach.{Breach}
use Rattle.site.specs.declared.Breach.TheVariants.{Range, Name, Number, Overlap}
use Rattle.site.specs.declared.Fault.{Fault}
use Rattle.site.specs.declared.Fault.TheVariants.{InHeader, InUser, InPartition}
use Rattle.site.specs.Layout.{users, partitions, users_from, partitions_from, name_at, partition_row}
use Rattle.site.specs.Rules.{good_header, user_named, partition_named, name_alone, good_user, sound, partition_numbered, number_alone, partitions_overlap, apart, good_partition, good_site}

-- header, user row or partition row
unfoldable pub fault_part : Fault → ℕ
fault_part InHeader = 0
fault_part (InUser i) = 1
fault_part (InPartition i b) = 2

-- the row's index; 0 for the header
unfoldable pub fault_row : Fault → ℕ
fault_row InHeader = 0
fault_row (InUser i) = i
fault_row (InPartition i b) = i

-- a range, a repeated name, a repeated volume and number, or an overlap
unfoldable pub breach_number : Breach → ℕ
breach_number Range = 1
breach_number Name = 2
breach_number Number = 3
breach_number Overlap = 4

-- the header's fault is a range; a user row's is a repeated name
unfoldable pub fault_breach : Fault → ℕ
fault_breach InHeader = breach_number Range
fault_breach (InUser i) = breach_number Name
fault_breach (InPartition i b) = breach_number b

-- partition row i has this breach. Nonzero spare bytes are a range. A row is judged beside the rows before it, so of a clashing pair
-- the later one has the breach
unfoldable pub breaks : List ℕ → ℕ → Breach → Bool
breaks f i Range = not (sound f i)
breaks f i Name = not (name_alone f (partitions_from f) 24 i)
breaks f i Number = not (number_alone f i)
breaks f i Overlap = not (apart f i)

-- the breach of a partition row that is not good: the first in this order
unfoldable pub breach_at : List ℕ → ℕ → Breach
breach_at f i =
    cond (breaks f i Range) Range
    (cond (breaks f i Name) Name
    (cond (breaks f i Number) Number
    Overlap))

-- the least user row and the least partition row that is not good, or their count where all are
unfoldable pub first_user : List ℕ → ℕ
first_user f = first (fails (good_user f)) (users f)

unfoldable pub first_partition : List ℕ → ℕ
first_partition f = first (fails (good_partition f)) (partitions f)

-- the first fault of a file that is not good: the header, then the user rows, then the partition rows, in file order
unfoldable pub first_fault : List ℕ → Fault
first_fault f =
    cond (not (good_header f)) InHeader
    (cond (ltb (first_user f) (users f)) (InUser (first_user f))
    (InPartition (first_partition f) (breach_at f (first_partition f))))

-- what the check gives
unfoldable pub checked : List ℕ → Result (Unit {0}) Fault
checked f = cond (good_site f) (Ok tt) (Err (first_fault f))

-- the same, said of any fault. A fault is there
unfoldable pub there : List ℕ → Fault → Bool
there f InHeader = not (good_header f)
there f (InUser i) = ltb i (users f) && not (good_user f i)
there f (InPartition i b) = ltb i (partitions f) && breaks f i b

-- x stands before y: in an earlier part; in one part in an earlier row; in one row as an earlier breach
unfoldable pub before : Fault → Fault → Bool
before x y =
    ltb (fault_part x) (fault_part y) || (eqb (fault_part x) (fault_part y)
    && (ltb (fault_row x) (fault_row y) || (eqb (fault_row x) (fault_row y)
    && ltb (fault_breach x) (fault_breach y))))

-- x is the first: it is there, and none that is there stands before it
pub record First (f : List ℕ) (x : Fault) : Type 0 where
  pub named : there f x ≡ true
  pub none_before : (y : Fault) → there f y ≡ true → before y x ≡ false

-- row j clashes with the row that the fault names: it has its name, its volume and number, or a sector of it
unfoldable pub clashes : List ℕ → Fault → ℕ → Bool
clashes f InHeader j = false
clashes f (InUser i) j = user_named f (name_at f users_from 16 i) j
clashes f (InPartition i Range) j = false
clashes f (InPartition i Name) j = partition_named f (name_at f (partitions_from f) 24 i) j
clashes f (InPartition i Number) j = partition_numbered f (partition_row f i).volume (partition_row f i).partition j
clashes f (InPartition i Overlap) j = partitions_overlap f i j

-- the earlier row of the pair: the first that clashes, or the row named where none does
unfoldable pub earlier_row : List ℕ → Fault → ℕ
earlier_row f x = first (clashes f x) (fault_row x)
