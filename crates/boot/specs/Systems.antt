-- The OS table of 001: OS number, product map 16, option map 6, load list of eight names 64, reserved 9. t is the table, dir the
-- system directory.
use Rattle.std.specs.Prelude.{ℕ, ◌+◌, ◌*◌, ◌/◌, ◌%◌, Bool, ◌&&◌, ◌||◌, List, eqb, length, get_or, take}
use Rattle.rows.specs.Words.{first, same}
use Rattle.rows.specs.Rows.{part, begins}
use Rattle.rows.specs.Numbers.{low_first, bit_at}
use Rattle.directory.specs.Directory.{file_length, null_name, file_of, in_directory}
use Rattle.boot.specs.Tables.{seven_bits}

unfoldable pub system_rows : List ℕ → ℕ
system_rows t = length t / 96

-- upper nibbles match; lower ones too, but where the user's is 0
unfoldable pub os_fits : ℕ → ℕ → Bool
os_fits number wanted =
    eqb (number / 16) (wanted / 16)
    && (eqb (wanted % 16) 0 || eqb (number % 16) (wanted % 16))

-- the bit of a product number in the 128-bit product map of system i; bit 0 is the low bit of the first byte
unfoldable pub product_fits : List ℕ → ℕ → ℕ → Bool
product_fits t product i = bit_at (low_first (part t (96 * i + 1) 16)) (seven_bits product)

unfoldable pub system_options : List ℕ → ℕ → List ℕ
system_options t i = part t (96 * i + 17) 6

-- the first name in the load list of system i; and the list: the names before the first null name
unfoldable pub first_name : List ℕ → ℕ → List ℕ
first_name t i = part t (96 * i + 23) 8

unfoldable pub names_before : List ℕ → ℕ
names_before list = first (begins 8 list null_name) 8

unfoldable pub load_list : List ℕ → ℕ → List ℕ
load_list t i = take (8 * names_before (part t (96 * i + 23) 64)) (part t (96 * i + 23) 64)

-- system i is the one wanted and for the product
unfoldable pub suits : List ℕ → ℕ → ℕ → ℕ → Bool
suits t wanted product i = os_fits (get_or t (96 * i) 0) wanted && product_fits t product i

-- it fits where its first name is in the directory too. Its size is the length of that file
unfoldable pub fits : List ℕ → List ℕ → ℕ → ℕ → ℕ → Bool
fits t dir wanted product i = suits t wanted product i && in_directory dir (first_name t i)

unfoldable pub system_size : List ℕ → List ℕ → ℕ → ℕ
system_size t dir i = file_length dir (file_of dir (first_name t i))

-- it fits, and its option map is the machine's
unfoldable pub fits_exactly : List ℕ → List ℕ → ℕ → ℕ → List ℕ → ℕ → Bool
fits_exactly t dir wanted product options i = fits t dir wanted product i && same (system_options t i) options
