-- A witness for each honor flag: one set of small tables, and five logins.
use Prim.Native.Nat.{ℕ}
use mathlib.Core.Path.{◌≡◌, refl}
use mathlib.Core.List.{List, [], ◌∷◌, ◌++◌}
use lib.ListN.{get_or, replicate}
use Rattle.rows.specs.Words.{all, any, first, none_smaller, smallest, build, same_at, same}
use Rattle.rows.specs.Rows.{part, begins}
use Rattle.rows.specs.Numbers.{low_first, bit_at}
use Rattle.terms.specs.Names.{pads, keeping, trimmed, same_name}
use Rattle.directory.specs.Directory.{files, file_length, null_name, file_named, file_of, in_directory}
use Rattle.boot.specs.Tables.{Tables, machine_rows, machine_of, machine_known, product_number, machine_options, product_rows, seven_bits, is_product, product_of, product_known, login_please, os_menu, user_rows, is_user, user_of, user_known, wanted_os, wants_small}
use Rattle.boot.specs.Systems.{system_rows, os_fits, product_fits, system_options, first_name, names_before, load_list, suits, fits, system_size, fits_exactly}
use Rattle.boot.specs.Choice.{exact_of, smallest_of, chosen_for, chosen, name_of, all_there, honor}

-- a name of one letter, filled up with zeros
abbrev pub letter : ℕ → List ℕ
letter c = c ∷ replicate 7 0

abbrev pub zeroes : ℕ → List ℕ
zeroes n = replicate n 0

-- a user by his letter, the system that he wants and the size flag; his password is six zeros
abbrev pub user : ℕ → ℕ → ℕ → List ℕ
user c os size = letter c ++ (zeroes 6 ++ (os ∷ size ∷ []))

-- the machine of serial 01 00 00 00 has product 1 and the options 01; one system, 11, is for it and has these options. User A wants any
-- system of the kind 1 with full service, B the small one, C one of the kind 2
abbrev pub tables : Tables
tables = record {
  machines = 1 ∷ 0 ∷ 0 ∷ 0 ∷ 1 ∷ 1 ∷ 0 ∷ 0 ∷ 0 ∷ 0 ∷ 0 ∷ 7 ∷ [];
  products = 1 ∷ (letter 80 ++ (letter 76 ++ letter 77));
  users = user 65 0x10 0 ++ (user 66 0x10 1 ++ user 67 0x20 0);
  configurations = [];
  systems = 0x11 ∷ 2 ∷ (zeroes 15 ++ (1 ∷ (zeroes 5 ++ (letter 83 ++ zeroes 65))));
  directory = letter 76 ++ (zeroes 16 ++ (letter 77 ++ (zeroes 16 ++ (letter 83 ++ zeroes 16))));
}

-- A, B, somebody unknown, C, and A at a machine that is not known
abbrev pub serials : ℕ → List ℕ
serials k = get_or (1 ∷ 1 ∷ 1 ∷ 1 ∷ 2 ∷ []) k 0 ∷ 0 ∷ 0 ∷ 0 ∷ []

abbrev pub names : ℕ → List ℕ
names k = letter (get_or (65 ∷ 66 ∷ 88 ∷ 67 ∷ 65 ∷ []) k 0)

pub each_flag : build (λ k. honor tables (serials k) (names k) (zeroes 6)) 5 ≡ 0 ∷ 1 ∷ 2 ∷ 3 ∷ 4 ∷ []
unfolding all any first none_smaller smallest build same_at same part begins low_first bit_at pads keeping trimmed same_name files file_length null_name file_named file_of in_directory machine_rows machine_of machine_known product_number machine_options product_rows seven_bits is_product product_of product_known login_please os_menu user_rows is_user user_of user_known wanted_os wants_small system_rows os_fits product_fits system_options first_name names_before load_list suits fits system_size fits_exactly exact_of smallest_of chosen_for chosen name_of all_there honor
each_flag = refl
