-- What is chosen: an honor flag and the names to load, in bytes, eight to a name. m, p and u are the rows of the machine, of its
-- product and of the user.
use Rattle.std.specs.Prelude.{ℕ, ◌*◌, ◌/◌, Bool, cond, not, ◌&&◌, List, length}
use Rattle.rows.specs.Words.{all, any, first, smallest}
use Rattle.rows.specs.Rows.{part}
use Rattle.directory.specs.Directory.{in_directory}
use Rattle.boot.specs.Tables.{Tables, product_number, machine_options, machine_of, machine_known, login_please, os_menu, product_of, product_known, wanted_os, wants_small, user_of, user_known}
use Rattle.boot.specs.Systems.{system_rows, load_list, fits, system_size, fits_exactly}

pub record Choice : Type 0 where
  pub flag : ℕ
  pub names : List ℕ

abbrev pub choice_of : ℕ → List ℕ → Choice
choice_of flag names = record { flag = flag; names = names }

-- ---- a system for the user

-- the systems that fit, and those among them that have the machine's options
abbrev pub fitting : Tables → ℕ → ℕ → ℕ → Bool
fitting x m u = fits x.systems x.directory (wanted_os x.users u) (product_number x.machines m)

abbrev pub exact : Tables → ℕ → ℕ → ℕ → Bool
exact x m u = fits_exactly x.systems x.directory (wanted_os x.users u) (product_number x.machines m) (machine_options x.machines m)

unfoldable pub exact_of : Tables → ℕ → ℕ → ℕ
exact_of x m u = first (exact x m u) (system_rows x.systems)

unfoldable pub smallest_of : Tables → ℕ → ℕ → ℕ
smallest_of x m u = smallest (fitting x m u) (system_size x.systems x.directory) (system_rows x.systems)

-- full service and equal option maps: the first such system, 0. Otherwise, or for the small system: the smallest that fits, 1. None: OS
-- Menu, 3
unfoldable pub chosen_for : Tables → ℕ → ℕ → ℕ → Choice
chosen_for x m p u =
    cond (not (wants_small x.users u) && any (exact x m u) (system_rows x.systems))
    (choice_of 0 (load_list x.systems (exact_of x m u)))
    (cond (any (fitting x m u) (system_rows x.systems))
    (choice_of 1 (load_list x.systems (smallest_of x m u)))
    (choice_of 3 (os_menu x.products p)))

-- an unknown name or password: Login Please, 2
unfoldable pub chosen : Tables → ℕ → ℕ → List ℕ → List ℕ → Choice
chosen x m p name password =
    cond (user_known x.users name password)
    (chosen_for x m p (user_of x.users name password))
    (choice_of 2 (login_please x.products p))

-- every name to load is in the directory
unfoldable pub name_of : List ℕ → ℕ → List ℕ
name_of names k = part names (8 * k) 8

unfoldable pub all_there : List ℕ → List ℕ → Bool
all_there dir names = all (λ k. in_directory dir (name_of names k)) (length names / 8)

-- ---- what a login is given

-- the rows of its machine and of that machine's product
abbrev pub machine_row : Tables → List ℕ → ℕ
machine_row x serial = machine_of x.machines serial

abbrev pub product_row : Tables → List ℕ → ℕ
product_row x serial = product_of x.products (product_number x.machines (machine_row x serial))

abbrev pub given : Tables → List ℕ → List ℕ → List ℕ → Choice
given x serial name password = chosen x (machine_row x serial) (product_row x serial) name password

-- the honor flag: 4 for a missing machine row, then a missing product row, then a chosen name that is not in the directory
unfoldable pub honor : Tables → List ℕ → List ℕ → List ℕ → ℕ
honor x serial name password =
    cond (not (machine_known x.machines serial)) 4
    (cond (not (product_known x.products (product_number x.machines (machine_row x serial)))) 4
    (cond (not (all_there x.directory (given x serial name password).names)) 4
    (given x serial name password).flag))
