-- Boot Phase 2's data block of 194 bytes: four drives 32, IOBYTE, type-ahead 32 (its length first), honor flag, eight load entries of
-- 16 bytes each.
use Rattle.std.specs.Prelude.{ℕ, ◌-◌, ◌*◌, ◌/◌, cond, List, ◌∷◌, ◌++◌, length, replicate}
use Rattle.rows.specs.Rows.{part, join}
use Rattle.directory.specs.Directory.{file_entry, file_of}
use Rattle.boot.specs.Tables.{Tables, iobyte, user_of, user_known, no_configuration, configuration}
use Rattle.boot.specs.Choice.{Choice, name_of, machine_row, given}

-- the load entry of a name is its directory row without the name; unused entries are zero
unfoldable pub load_entry : List ℕ → List ℕ → ℕ → List ℕ
load_entry dir names k = file_entry dir (file_of dir (name_of names k))

unfoldable pub load_entries : List ℕ → List ℕ → List ℕ
load_entries dir names = join (load_entry dir names) (length names / 8) ++ replicate (128 - 16 * (length names / 8)) 0

-- c is the user's configuration, io the machine's IOBYTE
unfoldable pub block_of : List ℕ → List ℕ → ℕ → Choice → List ℕ
block_of dir c io choice =
    part c 0 32 ++ (io ∷ (part c 32 32 ++ (choice.flag ∷ load_entries dir choice.names)))

-- the user's same-numbered row, or zeros
unfoldable pub configuration_of : Tables → List ℕ → List ℕ → List ℕ
configuration_of x name password =
    cond (user_known x.users name password) (configuration x.configurations (user_of x.users name password)) no_configuration

unfoldable pub boot_block : Tables → List ℕ → List ℕ → List ℕ → List ℕ
boot_block x serial name password =
    block_of x.directory (configuration_of x name password) (iobyte x.machines (machine_row x serial)) (given x serial name password)
