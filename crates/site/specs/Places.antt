-- The place of an address.
use Rattle.std.specs.Prelude.{ℕ, ◌+◌, ◌-◌, ◌*◌, Bool, cond, ◌&&◌, List, Result, Ok, Err, leb, ltb}
use Rattle.refusals.specs.Refusals.{number}
use Rattle.terms.specs.declared.Address.{Address}
use Rattle.terms.specs.declared.Place.{Place}
use Rattle.site.specs.declared.PartitionRow.{PartitionRow}
use Rattle.site.specs.declared.Fault.{Fault}
use Rattle.site.specs.declared.Refused.{Refused}
use Rattle.site.specs.declared.Refused.TheVariants.{Site, By}
use Rattle.site.specs.Layout.{partitions, partition_row}
use Rattle.site.specs.Rules.{tracks, good_site}
use Rattle.site.specs.Faults.{first_fault}
use Rattle.site.specs.Found.{index_of_number}

-- a refusal and no place, or 0 and the place
pub record Placed : Type 0 where
  pub refusal : ℕ
  pub place : Place

-- what the place of an address is answered in any file: the file's first fault, or the place and its refusals
pub data Located : Type 0 where
  Faulty : Fault → Located
  At : Placed → Located

-- the track is below the row's tracks and the sector is 1 to 128
unfoldable pub inside : PartitionRow → Address → Bool
inside r a = ltb a.track.0 (tracks r.size) && (leb 1 a.sector.0 && leb a.sector.0 128)

-- the row's volume, and first sector + track × 128 + sector − 1
unfoldable pub place_on : PartitionRow → Address → Place
place_on r a = record { volume = r.volume; sector = r.first + a.track.0 * 128 + a.sector.0 - 1 }

-- no place where the address is refused
unfoldable pub refused : ℕ → Placed
refused k = record { refusal = k; place = record { volume = record { 0 = 0 }; sector = 0 } }

unfoldable pub placed_on : PartitionRow → Address → Placed
placed_on r a = cond (inside r a) (record { refusal = 0; place = place_on r a }) (refused 9)

-- 8 volume and partition name no row; 9 track or sector outside the partition; otherwise the place
unfoldable pub placed_in : List ℕ → Address → Placed
placed_in f a =
    cond (ltb (index_of_number f a.volume a.partition) (partitions f))
    (placed_on (partition_row f (index_of_number f a.volume a.partition)) a)
    (refused 8)

-- 10 the site file, with its first fault; then as above
unfoldable pub placed_by : List ℕ → Address → Located
placed_by f a = cond (good_site f) (At (placed_in f a)) (Faulty (first_fault f))

-- what the typed answer says of these: no two answers say the same
unfoldable pub located : Result Place Refused → Located
located (Ok place) = At (record { refusal = 0; place = place })
located (Err (Site x)) = Faulty x
located (Err (By r)) = At (refused (number r))

-- the number of a refusal: that of a file with a fault is 10
abbrev pub refused_number : Refused → ℕ
refused_number (Site x) = 10
refused_number (By r) = number r
