-- What is looked up in a good site file.
use Rattle.std.specs.Prelude.{ℕ, Bool, ◌&&◌, List}
use Rattle.rows.specs.Words.{any, first, same}
use Rattle.terms.specs.declared.Volume.{Volume}
use Rattle.terms.specs.declared.Partition.{Partition}
use Rattle.site.specs.Layout.{users, partitions, user_password}
use Rattle.site.specs.Rules.{user_named, partition_named, partition_numbered}

-- user row i has that name and password
unfoldable pub user_is : List ℕ → List ℕ → List ℕ → ℕ → Bool
user_is f name password i = user_named f name i && same (user_password f i) password

-- a user row has that name and password
unfoldable pub has_user : List ℕ → List ℕ → List ℕ → Bool
has_user f name password = any (user_is f name password) (users f)

-- the index of the partition row with that name, or the number of partitions where there is none
unfoldable pub index_of_name : List ℕ → List ℕ → ℕ
index_of_name f name = first (partition_named f name) (partitions f)

-- the index of the partition row with that volume and number, or the number of partitions where there is none
unfoldable pub index_of_number : List ℕ → Volume → Partition → ℕ
index_of_number f v p = first (partition_numbered f v p) (partitions f)
