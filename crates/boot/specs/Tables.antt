-- The tables of 001 that are asked at login, as they are lent: rows of fixed width, numbers low byte first. The sixth, the system
-- directory, is that of the crate `directory`.
use Rattle.std.specs.Prelude.{ℕ, ◌+◌, ◌*◌, ◌/◌, ◌%◌, Bool, cond, ◌&&◌, List, [], ◌∷◌, eqb, leb, ltb, length, get_or, replicate}
use Rattle.rows.specs.Words.{any, first, same}
use Rattle.rows.specs.Rows.{part, begins}
use Rattle.terms.specs.Names.{same_name}

pub record Tables : Type 0 where
  pub machines : List ℕ
  pub products : List ℕ
  pub users : List ℕ
  pub configurations : List ℕ
  pub systems : List ℕ
  pub directory : List ℕ

-- the six, in the order in which they are lent
abbrev pub lent : List ℕ → List ℕ → List ℕ → List ℕ → List ℕ → List ℕ → Tables
lent machines products users configurations systems directory = record {
  machines = machines;
  products = products;
  users = users;
  configurations = configurations;
  systems = systems;
  directory = directory;
}

-- a table of whole rows of w bytes, no more than 001's limit. An empty one is whole
unfoldable pub whole : ℕ → ℕ → List ℕ → Bool
whole w limit t = eqb (length t % w) 0 && leb (length t / w) limit

unfoldable pub all_whole : Tables → Bool
all_whole x =
    whole 12 128 x.machines
    && (whole 25 40 x.products
    && (whole 16 128 x.users
    && (whole 64 128 x.configurations
    && (whole 96 128 x.systems
    && whole 24 128 x.directory))))

-- ---- machine table: serial number 4, product number, option map 6, IOBYTE

unfoldable pub machine_rows : List ℕ → ℕ
machine_rows t = length t / 12

-- the first row with the serial, and whether there is one
unfoldable pub machine_of : List ℕ → List ℕ → ℕ
machine_of t serial = first (begins 12 t serial) (machine_rows t)

unfoldable pub machine_known : List ℕ → List ℕ → Bool
machine_known t serial = any (begins 12 t serial) (machine_rows t)

unfoldable pub product_number : List ℕ → ℕ → ℕ
product_number t i = get_or t (12 * i + 4) 0

unfoldable pub machine_options : List ℕ → ℕ → List ℕ
machine_options t i = part t (12 * i + 5) 6

unfoldable pub iobyte : List ℕ → ℕ → ℕ
iobyte t i = get_or t (12 * i + 11) 0

-- ---- product type table: product type, the names of Boot Phase 2, of Login Please and of OS Menu, 8 bytes each

-- a row of type 0 ends the table
unfoldable pub product_rows : List ℕ → ℕ
product_rows t = first (begins 25 t (0 ∷ [])) (length t / 25)

-- seven bits of a product number: the highest tells the console
unfoldable pub seven_bits : ℕ → ℕ
seven_bits number = number % 128

unfoldable pub is_product : List ℕ → ℕ → ℕ → Bool
is_product t number i = eqb (seven_bits (get_or t (25 * i) 0)) (seven_bits number)

-- the first row of the product number, and whether there is one
unfoldable pub product_of : List ℕ → ℕ → ℕ
product_of t number = first (is_product t number) (product_rows t)

unfoldable pub product_known : List ℕ → ℕ → Bool
product_known t number = any (is_product t number) (product_rows t)

unfoldable pub login_please : List ℕ → ℕ → List ℕ
login_please t i = part t (25 * i + 9) 8

unfoldable pub os_menu : List ℕ → ℕ → List ℕ
os_menu t i = part t (25 * i + 17) 8

-- ---- user name table: user name 8, password 6, OS number, OS size flag

unfoldable pub user_rows : List ℕ → ℕ
user_rows t = length t / 16

-- row i has the name, padding aside (Req 06), and the password
unfoldable pub is_user : List ℕ → List ℕ → List ℕ → ℕ → Bool
is_user t name password i = same_name (part t (16 * i) 8) name && same (part t (16 * i + 8) 6) password

-- the first row with both, and whether there is one
unfoldable pub user_of : List ℕ → List ℕ → List ℕ → ℕ
user_of t name password = first (is_user t name password) (user_rows t)

unfoldable pub user_known : List ℕ → List ℕ → List ℕ → Bool
user_known t name password = any (is_user t name password) (user_rows t)

unfoldable pub wanted_os : List ℕ → ℕ → ℕ
wanted_os t i = get_or t (16 * i + 14) 0

-- the low bit of the size flag: 1 for the small system, 0 for full service
unfoldable pub wants_small : List ℕ → ℕ → Bool
wants_small t i = eqb (get_or t (16 * i + 15) 0 % 2) 1

-- ---- user configuration table: four drives of 8 bytes each, length of the type-ahead, type-ahead 31

unfoldable pub no_configuration : List ℕ
no_configuration = replicate 64 0

-- row i, or zeros where there is no such row
unfoldable pub configuration : List ℕ → ℕ → List ℕ
configuration t i = cond (ltb i (length t / 64)) (part t (64 * i) 64) no_configuration
