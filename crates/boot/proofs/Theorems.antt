-- What can be relied on: what each honor flag says, what is chosen, and what stands in the buffer. m, p and u are the rows of the
-- machine, of its product and of the user.
use Rattle.std.specs.Prelude.{Result, Ok, Err}
use Prim.Native.Nat.{ℕ, ◌+◌, ◌*◌, ◌/◌, ◌%◌, ◌≤◌, ◌<◌}
use native.Mathlib.Omega.{arith}
use mathlib.Core.Path.{◌≡◌, refl, sym, ap, ◌∙◌}
use mathlib.Core.Bool.{Bool, true, false, not, ◌&&◌}
use mathlib.Core.List.{List, [], ◌∷◌, ◌++◌}
use lib.Dec.{eqb, ltb}
use lib.ListN.{length, get_or, drop, replicate, length-replicate}
use lib.Seq.{take_all}
use borrow.Author.Tests.{lt-ltb, not-true, eqb-true}
use Rattle.rows.specs.Words.{all, any, same}
use Rattle.rows.specs.Rows.{part, row}
use Rattle.rows.specs.Numbers.{bit_at}
use Rattle.rows.proofs.BoolLaws.{by_test, both, and_left, and_right, either}
use Rattle.rows.proofs.IndexLaws.{first_found, first_least}
use Rattle.rows.proofs.SmallestLaws.{Smallest, smallest_there}
use Rattle.rows.proofs.NumberLaws.{Bytes, bytes_part, bit_in_byte}
use Rattle.rows.proofs.RowLaws.{row_end, length_part, part_most, part_part}
use Rattle.directory.specs.Directory.{file_entry, file_of, in_directory}
use Rattle.boot.specs.Tables.{Tables, all_whole, iobyte, product_number, machine_known, seven_bits, is_product, product_rows, product_of, product_known, login_please, os_menu, wants_small, user_of, user_known, no_configuration}
use Rattle.boot.specs.Systems.{system_rows, os_fits, product_fits, system_options, first_name, load_list, suits, fits, system_size, fits_exactly}
use Rattle.boot.specs.Choice.{Choice, choice_of, fitting, exact, exact_of, smallest_of, chosen_for, chosen, name_of, all_there, machine_row, product_row, given, honor}
use Rattle.boot.specs.Block.{load_entry, load_entries, configuration_of, boot_block}
use Rattle.refusals.specs.declared.Refusal.{Refusal}
use Rattle.refusals.specs.Refusals.{number}
use Rattle.refusals.proofs.OutcomeLaws.{number_one}
use Rattle.boot.specs.declared.Honor.{Honor}
use Rattle.boot.specs.declared.Honor.TheVariants.{Exact, Smallest as SmallestOne, LoginPlease, Menu, Nothing}
use Rattle.boot.specs.Honors.{flag_of}
use Rattle.boot.specs.Answers.{Booted, Refused, Honors, booted, boot_refusal, written, boot_answer, block_after, Boots}
use Rattle.boot.proofs.TableLaws.{products_most, configuration_long}
use Rattle.boot.proofs.SystemLaws.{list_most}
use Rattle.boot.proofs.EntryLaws.{entry_at, entry_unused, block_drives, block_iobyte, block_ahead, block_flag, block_entries, block_long}
use Rattle.boot.proofs.ChoiceLaws.{exactly, some, gets_exact, gets_smallest, gets_menu, chosen_unknown, chosen_known, drives_unknown, drives_known, chosen_flag}

-- ---- a system that fits

-- a product number picks bit n % 8 of byte n / 8 of the map, n its seven low bits; so its highest bit makes no difference
pub product_bit : (t : List ℕ) (number i : ℕ) → Bytes t → product_fits t number i ≡ bit_at (get_or (part t (96 * i + 1) 16) (seven_bits number / 8) 0) (seven_bits number % 8)
unfolding product_fits
product_bit t number i small = bit_in_byte (part t (96 * i + 1) 16) (bytes_part t (96 * i + 1) 16 small) (seven_bits number)

pub console_ignored : (t : List ℕ) (number i : ℕ) → product_fits t (number + 128) i ≡ product_fits t number i
unfolding product_fits seven_bits
console_ignored t number i =
    let low : (number + 128) % 128 ≡ number % 128 = omega arith in
    rw low

module _ (t dir : List ℕ) (wanted product : ℕ) (options : List ℕ) (i : ℕ) where
  -- its number, its product and its first name
  pub fits_is : fits t dir wanted product i ≡ true → (os_fits (get_or t (96 * i) 0) wanted ≡ true) × (product_fits t product i ≡ true) × (in_directory dir (first_name t i) ≡ true)
  unfolding fits suits
  fits_is h =
      let number = os_fits (get_or t (96 * i) 0) wanted in
      let suited = and_left (number && product_fits t product i) (in_directory dir (first_name t i)) h in
      (and_left number (product_fits t product i) suited, and_right number (product_fits t product i) suited, and_right (number && product_fits t product i) (in_directory dir (first_name t i)) h)

  -- and its options
  pub exact_is : fits_exactly t dir wanted product options i ≡ true → (fits t dir wanted product i ≡ true) × (same (system_options t i) options ≡ true)
  unfolding fits_exactly
  exact_is h =
      (and_left (fits t dir wanted product i) (same (system_options t i) options) h, and_right (fits t dir wanted product i) (same (system_options t i) options) h)

-- ---- the names that are chosen

-- one name is there where it is in the directory
one_there : (dir name : List ℕ) → length name ≡ 8 → all_there dir name ≡ in_directory dir name
unfolding all_there all name_of part
one_there dir name long = rw (long, take_all 8 name (omega arith))

-- no more than eight names are chosen
names_short : (x : Tables) (m p : ℕ) (name password : List ℕ) → length (chosen x m p name password).names ≤ 64
unfolding chosen chosen_for login_please os_menu
names_short x m p name password = by_test (user_known x.users name password)
    (λ y. by_test (exactly x m p (user_of x.users name password))
    (λ e. rw (y, e) (list_most x.systems (exact_of x m (user_of x.users name password))))
    (λ n. by_test (some x m p (user_of x.users name password))
    (λ f. rw (y, n, f) (list_most x.systems (smallest_of x m (user_of x.users name password))))
    (λ f. rw (y, n, f) (omega (arith, part_most x.products (25 * p + 17) 8)))))
    (λ n. rw n (omega (arith, part_most x.products (25 * p + 9) 8)))

-- ---- the honor flag

module _ (x : Tables) (serial name password : List ℕ) where
  abbrev pub MachineThere : Type 0
  MachineThere = machine_known x.machines serial ≡ true

  abbrev pub ProductThere : Type 0
  ProductThere = product_known x.products (product_number x.machines (machine_row x serial)) ≡ true

  -- where machine, product and names are there it is the flag of what is chosen
  pub honors : MachineThere → ProductThere → all_there x.directory (given x serial name password).names ≡ true → honor x serial name password ≡ (given x serial name password).flag
  unfolding honor
  honors machine product names = rw (machine, product, names)

  -- and below 4 nowhere else
  pub honored : honor x serial name password < 4 → MachineThere × ProductThere × (all_there x.directory (given x serial name password).names ≡ true) × (honor x serial name password ≡ (given x serial name password).flag)
  unfolding honor
  honored l = by_test (machine_known x.machines serial)
      (λ y. by_test (product_known x.products (product_number x.machines (machine_row x serial)))
      (λ z. by_test (all_there x.directory (given x serial name password).names)
      (λ t. (y, z, t, rw (y, z, t)))
      (λ f. let lie : 4 < 4 = rw (y, z, f) at l in absurd (omega arith)))
      (λ f. let lie : 4 < 4 = rw (y, f) at l in absurd (omega arith)))
      (λ f. let lie : 4 < 4 = rw f at l in absurd (omega arith))

  pub honor_most : honor x serial name password ≤ 4
  unfolding honor
  honor_most = by_test (machine_known x.machines serial)
      (λ y. by_test (product_known x.products (product_number x.machines (machine_row x serial)))
      (λ z. by_test (all_there x.directory (given x serial name password).names)
      (λ t. rw (y, z, t) (omega (arith, chosen_flag x (machine_row x serial) (product_row x serial) name password)))
      (λ f. rw (y, z, f) (omega arith)))
      (λ f. rw (y, f) (omega arith)))
      (λ f. rw f (omega arith))

  -- the product's row lies in its table, so its names have eight bytes
  module _ (known : ProductThere) where
    product_inside : 25 * product_row x serial + 25 ≤ length x.products
    unfolding product_known product_of
    product_inside =
        omega (arith, row_end 25 (first_found (is_product x.products (product_number x.machines (machine_row x serial))) (product_rows x.products) known).0, products_most x.products)

    please_long : length (login_please x.products (product_row x serial)) ≡ 8
    unfolding login_please
    please_long = length_part x.products (25 * product_row x serial + 9) 8 (omega (arith, product_inside))

    menu_long : length (os_menu x.products (product_row x serial)) ≡ 8
    unfolding os_menu
    menu_long = length_part x.products (25 * product_row x serial + 17) 8 (omega (arith, product_inside))

  -- ---- what each flag says

  -- the rows
  abbrev m : ℕ
  m = machine_row x serial

  abbrev p : ℕ
  p = product_row x serial

  abbrev u : ℕ
  u = user_of x.users name password

  -- a flag that is the one chosen, for a name and password that are unknown, and for a user
  unknown_is : user_known x.users name password ≡ false → given x serial name password ≡ choice_of 2 (login_please x.products p)
  unknown_is n = chosen_unknown x m p name password n

  known_is : user_known x.users name password ≡ true → given x serial name password ≡ chosen_for x m p u
  known_is y = chosen_known x m p name password y

  -- the flag of a user: 0, 1 or 3
  data Ways : Choice → Type 0 where
    exact_one : exactly x m p u ≡ true → Ways (choice_of 0 (load_list x.systems (exact_of x m u)))
    small_one : exactly x m p u ≡ false → some x m p u ≡ true → Ways (choice_of 1 (load_list x.systems (smallest_of x m u)))
    menu_one : some x m p u ≡ false → Ways (choice_of 3 (os_menu x.products p))

  ways : Ways (chosen_for x m p u)
  ways = by_test (exactly x m p u)
      (λ y. rw (gets_exact x m p u y) (exact_one y))
      (λ n. by_test (some x m p u)
      (λ y. rw (gets_smallest x m p u n y) (small_one n y))
      (λ none. rw (gets_menu x m p u none) (menu_one none)))

  -- 2 exactly where no user row fits, of a machine and a product that are there, with Login Please in the directory
  pub two_is : honor x serial name password ≡ 2 → MachineThere × ProductThere × (user_known x.users name password ≡ false) × (in_directory x.directory (login_please x.products (product_row x serial)) ≡ true)
  two_is e =
      let h = honored (omega arith) in
      let flag : (given x serial name password).flag ≡ 2 = sym h.3 ∙ e in
      by_test (user_known x.users name password)
      (λ y. absurd (not_two (chosen_for x m p u) ways (ap (λ (c : Choice). c.flag) (sym (known_is y)) ∙ flag)))
      (λ n. (h.0, h.1, n, sym (one_there x.directory (login_please x.products p) (please_long h.1)) ∙ ap (λ (c : Choice). all_there x.directory c.names) (sym (unknown_is n)) ∙ h.2))
    where
      not_two : (c : Choice) → Ways c → c.flag ≡ 2 → ⊥
      not_two c (exact_one y) e = absurd (omega arith)
      not_two c (small_one n y) e = absurd (omega arith)
      not_two c (menu_one n) e = absurd (omega arith)

  pub is_two : MachineThere → ProductThere → user_known x.users name password ≡ false → in_directory x.directory (login_please x.products (product_row x serial)) ≡ true → honor x serial name password ≡ 2
  is_two mt pt n there =
      honors mt pt (ap (λ (c : Choice). all_there x.directory c.names) (unknown_is n) ∙ one_there x.directory (login_please x.products p) (please_long pt) ∙ there)
      ∙ ap (λ (c : Choice). c.flag) (unknown_is n)

  -- 3 exactly where a user row fits and no system does, with OS Menu in the directory
  pub three_is : honor x serial name password ≡ 3 → MachineThere × ProductThere × (user_known x.users name password ≡ true) × (any (fitting x (machine_row x serial) (user_of x.users name password)) (system_rows x.systems) ≡ false) × (in_directory x.directory (os_menu x.products (product_row x serial)) ≡ true)
  three_is e =
      let h = honored (omega arith) in
      let flag : (given x serial name password).flag ≡ 3 = sym h.3 ∙ e in
      by_test (user_known x.users name password)
      (λ y.
      let none = no_system (chosen_for x m p u) ways (ap (λ (c : Choice). c.flag) (sym (known_is y)) ∙ flag) in
      let is = known_is y ∙ gets_menu x m p u none in
      (h.0, h.1, y, none, sym (one_there x.directory (os_menu x.products p) (menu_long h.1)) ∙ ap (λ (c : Choice). all_there x.directory c.names) (sym is) ∙ h.2))
      (λ n. let lie : 2 ≡ 3 = ap (λ (c : Choice). c.flag) (sym (unknown_is n)) ∙ flag in absurd (omega arith))
    where
      no_system : (c : Choice) → Ways c → c.flag ≡ 3 → some x m p u ≡ false
      no_system c (exact_one y) e = absurd (omega arith)
      no_system c (small_one n y) e = absurd (omega arith)
      no_system c (menu_one n) e = n

  pub is_three : MachineThere → ProductThere → user_known x.users name password ≡ true → any (fitting x (machine_row x serial) (user_of x.users name password)) (system_rows x.systems) ≡ false → in_directory x.directory (os_menu x.products (product_row x serial)) ≡ true → honor x serial name password ≡ 3
  is_three mt pt y none there =
      let is = known_is y ∙ gets_menu x m p u none in
      honors mt pt (ap (λ (c : Choice). all_there x.directory c.names) is ∙ one_there x.directory (os_menu x.products p) (menu_long pt) ∙ there)
      ∙ ap (λ (c : Choice). c.flag) is

  -- 0: a user with full service gets the first system that fits with the machine's options
  pub zero_is : honor x serial name password ≡ 0 → (user_known x.users name password ≡ true) × (wants_small x.users (user_of x.users name password) ≡ false) × (exact_of x (machine_row x serial) (user_of x.users name password) < system_rows x.systems) × (exact x (machine_row x serial) (user_of x.users name password) (exact_of x (machine_row x serial) (user_of x.users name password)) ≡ true) × ((j : ℕ) → j < exact_of x (machine_row x serial) (user_of x.users name password) → exact x (machine_row x serial) (user_of x.users name password) j ≡ false) × ((given x serial name password).names ≡ load_list x.systems (exact_of x (machine_row x serial) (user_of x.users name password)))
  unfolding exact_of
  zero_is e =
      let h = honored (omega arith) in
      let flag : (given x serial name password).flag ≡ 0 = sym h.3 ∙ e in
      by_test (user_known x.users name password)
      (λ y.
      let wants = is_exact (chosen_for x m p u) ways (ap (λ (c : Choice). c.flag) (sym (known_is y)) ∙ flag) in
      let found = first_found (exact x m u) (system_rows x.systems) (and_right (not (wants_small x.users u)) (any (exact x m u) (system_rows x.systems)) wants) in
      (y, not-true (wants_small x.users u) (and_left (not (wants_small x.users u)) (any (exact x m u) (system_rows x.systems)) wants), found.0, found.1, first_least (exact x m u) (system_rows x.systems), ap (λ (c : Choice). c.names) (known_is y ∙ gets_exact x m p u wants)))
      (λ n. let lie : 2 ≡ 0 = ap (λ (c : Choice). c.flag) (sym (unknown_is n)) ∙ flag in absurd (omega arith))
    where
      is_exact : (c : Choice) → Ways c → c.flag ≡ 0 → exactly x m p u ≡ true
      is_exact c (exact_one y) e = y
      is_exact c (small_one n y) e = absurd (omega arith)
      is_exact c (menu_one n) e = absurd (omega arith)

  -- 1: a user gets the smallest system that fits: none that fits is smaller, and none as small stands before it
  pub one_is : honor x serial name password ≡ 1 → (user_known x.users name password ≡ true) × ((not (wants_small x.users (user_of x.users name password)) && any (exact x (machine_row x serial) (user_of x.users name password)) (system_rows x.systems)) ≡ false) × Smallest (fitting x (machine_row x serial) (user_of x.users name password)) (system_size x.systems x.directory) (system_rows x.systems) (smallest_of x (machine_row x serial) (user_of x.users name password)) × ((given x serial name password).names ≡ load_list x.systems (smallest_of x (machine_row x serial) (user_of x.users name password)))
  unfolding smallest_of
  one_is e =
      let h = honored (omega arith) in
      let flag : (given x serial name password).flag ≡ 1 = sym h.3 ∙ e in
      by_test (user_known x.users name password)
      (λ y.
      let way = is_small (chosen_for x m p u) ways (ap (λ (c : Choice). c.flag) (sym (known_is y)) ∙ flag) in
      (y, way.0, smallest_there (fitting x m u) (system_size x.systems x.directory) (system_rows x.systems) way.1, ap (λ (c : Choice). c.names) (known_is y ∙ gets_smallest x m p u way.0 way.1)))
      (λ n. let lie : 2 ≡ 1 = ap (λ (c : Choice). c.flag) (sym (unknown_is n)) ∙ flag in absurd (omega arith))
    where
      is_small : (c : Choice) → Ways c → c.flag ≡ 1 → (exactly x m p u ≡ false) × (some x m p u ≡ true)
      is_small c (exact_one y) e = absurd (omega arith)
      is_small c (small_one n y) e = (n, y)
      is_small c (menu_one n) e = absurd (omega arith)

-- ---- the buffer

pub refusal_small : (x : Tables) (b : List ℕ) → boot_refusal x b < 256
unfolding boot_refusal
refusal_small x b = either (not (all_whole x)) 23 _ (omega arith) (either (ltb (length b) 194) 13 0 (omega arith) (omega arith))

-- a configuration has 64 bytes, so the block of names that are there has 194
module _ (x : Tables) (serial name password : List ℕ) where
  configuration_whole : length (configuration_of x name password) ≡ 64
  unfolding no_configuration
  configuration_whole = by_test (user_known x.users name password)
      (λ y. ap length (drives_known x name password y) ∙ configuration_long x.configurations (user_of x.users name password))
      (λ n. ap length (drives_unknown x name password n) ∙ length-replicate {A = ℕ} 64 0)

  pub block_whole : honor x serial name password < 4 → length (boot_block x serial name password) ≡ 194
  unfolding boot_block
  block_whole l = block_long x.directory (configuration_of x name password) _ (given x serial name password) configuration_whole (names_short x (machine_row x serial) (product_row x serial) name password) (honored x serial name password l).2

-- what stands in the block of a flag below 4: drives, IOBYTE, type-ahead and flag; an entry for each name, in the order of the names; then
-- zeros
pub record Holds (x : Tables) (serial name password : List ℕ) : Type 0 where
  pub drives : part (boot_block x serial name password) 0 32 ≡ part (configuration_of x name password) 0 32
  pub io : part (boot_block x serial name password) 32 1 ≡ iobyte x.machines (machine_row x serial) ∷ []
  pub ahead : part (boot_block x serial name password) 33 32 ≡ part (configuration_of x name password) 32 32
  pub flag : part (boot_block x serial name password) 65 1 ≡ honor x serial name password ∷ []
  pub entry : (k : ℕ) → k < length (given x serial name password).names / 8 → part (boot_block x serial name password) (66 + 16 * k) 16 ≡ file_entry x.directory (file_of x.directory (name_of (given x serial name password).names k))
  pub unused : (k : ℕ) → length (given x serial name password).names / 8 ≤ k → k < 8 → part (boot_block x serial name password) (66 + 16 * k) 16 ≡ replicate 16 0

module _ (x : Tables) (serial name password : List ℕ) (l : honor x serial name password < 4) where
  most : length (given x serial name password).names ≤ 64
  most = names_short x (machine_row x serial) (product_row x serial) name password

  there : all_there x.directory (given x serial name password).names ≡ true
  there = (honored x serial name password l).2

  -- entry k of the block is that of the entries
  entry_in : (k : ℕ) → k < 8 → part (boot_block x serial name password) (66 + 16 * k) 16 ≡ row 16 (load_entries x.directory (given x serial name password).names) k
  unfolding boot_block
  entry_in k b =
      sym (part_part (boot_block x serial name password) 66 128 (16 * k) 16 (omega (arith, row_end 16 b)))
      ∙ ap (λ (e : List ℕ). row 16 e k) (block_entries x.directory (configuration_of x name password) (iobyte x.machines (machine_row x serial)) (given x serial name password) (configuration_whole x serial name password) most there)

  pub block_holds : Holds x serial name password
  unfolding boot_block load_entry
  block_holds = record {
    drives = block_drives x.directory (configuration_of x name password) (iobyte x.machines (machine_row x serial)) (given x serial name password) (configuration_whole x serial name password);
    io = block_iobyte x.directory (configuration_of x name password) (iobyte x.machines (machine_row x serial)) (given x serial name password) (configuration_whole x serial name password);
    ahead = block_ahead x.directory (configuration_of x name password) (iobyte x.machines (machine_row x serial)) (given x serial name password) (configuration_whole x serial name password);
    flag = block_flag x.directory (configuration_of x name password) (iobyte x.machines (machine_row x serial)) (given x serial name password) (configuration_whole x serial name password) ∙ ap (λ (f : ℕ). f ∷ []) (sym (honored x serial name password l).3);
    entry = λ k b. entry_in k (omega (arith, most)) ∙ entry_at x.directory (given x serial name password).names most there k b;
    unused = λ k g b. entry_in k b ∙ entry_unused x.directory (given x serial name password).names most there k g b;
  }

-- what is not refused: flag 4 leaves the buffer as it was, 0 to 3 the block and then the bytes that stood there
pub answered_after : (x : Tables) (serial name password b : List ℕ) → boot_refusal x b ≡ 0 → {b' : List ℕ} → b' ≡ block_after x serial name password b → (honor x serial name password ≡ 4 → b' ≡ b) × (honor x serial name password < 4 → b' ≡ boot_block x serial name password ++ drop 194 b)
unfolding block_after written
answered_after x serial name password b z e =
    (λ four. e ∙ (rw (z, four)), λ l. let low = lt-ltb _ _ l in e ∙ (rw (z, low)) ∙ ap (λ (k : ℕ). boot_block x serial name password ++ drop k b) (block_whole x serial name password l))

-- ---- over the contract of `boot`

refuses : Booted → Bool
refuses (Refused k) = true
refuses (Honors flag) = false

number_in : Booted → ℕ
number_in (Refused k) = k
number_in (Honors flag) = flag

module _ (x : Tables) (serial name password b : List ℕ) {b' : List ℕ} where
  -- a refusal is the rules' number and leaves the buffer as it was
  pub refused_boot : (r : Refusal) → Boots x serial name password b (Err r) b' → (number r ≡ boot_refusal x b) × (b' ≡ b)
  unfolding boot_answer block_after booted refuses number_in
  refused_boot r done = by_test (eqb (boot_refusal x b) 0)
      (λ z. both refl (ap refuses done.answer ∙ (rw z)))
      (λ n. (ap number_in done.answer ∙ (rw n), done.left ∙ (rw n)))

  -- any other answer is the honor flag: 4 leaves the buffer as it was, 0 to 3 the block and then the bytes that stood there
  pub honored_boot : (h : Honor) → Boots x serial name password b (Ok h) b' → (boot_refusal x b ≡ 0) × (flag_of h ≡ honor x serial name password) × (flag_of h ≡ 4 → b' ≡ b) × (flag_of h < 4 → b' ≡ boot_block x serial name password ++ drop 194 b)
  unfolding boot_answer booted refuses number_in
  honored_boot h done = by_test (eqb (boot_refusal x b) 0)
      (λ z.
      let none = eqb-true (boot_refusal x b) 0 z in
      let is : flag_of h ≡ honor x serial name password = ap number_in done.answer ∙ (rw z) in
      let after = answered_after x serial name password b none done.left in
      (none, is, λ four. after.0 (sym is ∙ four), λ low. after.1 (rw is at low)))
      (λ n. let lie : false ≡ true = ap refuses done.answer ∙ (rw n) in both lie refl)

-- what is told of two answers is one only where they are one
flag_one : (g h : Honor) → flag_of g ≡ flag_of h → g ≡ h
flag_one g h e = sym (honor_back g) ∙ ap honor_named e ∙ honor_back h
  where
    honor_named : ℕ → Honor
    honor_named k = get_or (Exact ∷ SmallestOne ∷ LoginPlease ∷ Menu ∷ []) k Nothing

    honor_back : (h : Honor) → honor_named (flag_of h) ≡ h
    honor_back Exact = refl
    honor_back SmallestOne = refl
    honor_back LoginPlease = refl
    honor_back Menu = refl
    honor_back Nothing = refl

pub booted_one : (r s : Result Honor Refusal) → booted r ≡ booted s → r ≡ s
unfolding booted number_in refuses
booted_one (Ok g) (Ok h) e = ap Ok (flag_one g h (ap number_in e))
booted_one (Ok g) (Err k) e = absurd (cc)
booted_one (Err j) (Ok h) e = absurd (cc)
booted_one (Err j) (Err k) e = ap Err (number_one j k (ap number_in e))
