-- The laws of specs/Choice.antt and specs/Inner.antt: a case for each way in which a choice is made.
use Rattle.std.specs.Prelude.{Option, Some, None, is_some}
use Prim.Native.Nat.{ℕ, ◌+◌, ◌≤◌, ◌<◌}
use native.Mathlib.Omega.{arith}
use mathlib.Core.Path.{◌≡◌, refl, sym, ap, ◌∙◌}
use mathlib.Core.Bool.{Bool, true, false, not, ◌&&◌}
use mathlib.Core.List.{List}
use borrow.Author.Tests.{lt-ltb, le-ltb, ltb-true, ltb-false}
use lib.Dec.{ltb}
use mathlib.Core.Logic.{inl, inr, ⊎_elim}
use Rattle.rows.specs.Words.{any, first, smallest}
use Rattle.rows.proofs.BoolLaws.{by_test, and_left, and_fails, contra}
use Rattle.rows.proofs.IndexLaws.{any_at, none_from, first_found, found_if, missing_if, search_on}
use Rattle.rows.proofs.SmallestLaws.{Smallest, SmallestSoFar, so_far_takes, so_far_stays, so_far_ends, smallest_below}
use Rattle.boot.specs.declared.systems.Lightest.{Lightest}
use Rattle.boot.specs.Tables.{Tables, product_number, machine_options, login_please, os_menu, wanted_os, wants_small, user_of, user_known, no_configuration, configuration}
use Rattle.directory.specs.Directory.{files, in_directory}
use Rattle.boot.specs.Systems.{system_rows, load_list, suits, fits, system_size, fits_exactly}
use Rattle.boot.specs.Choice.{choice_of, fitting, exact, exact_of, smallest_of, chosen_for, chosen}
use Rattle.boot.specs.Block.{configuration_of}
use Rattle.boot.specs.Inner.{Weighs, lighter, smallest_choice, choice_among}

-- a number that is another is no more than it
pub le_of_eq : {a b : ℕ} → a ≡ b → a ≤ b
le_of_eq e = omega arith

-- ---- a system among those that fit

module _ (t dir : List ℕ) (wanted product : ℕ) (menu : List ℕ) where
  module _ {row : ℕ} where
    pub smallest_found : (row ≡ smallest (fits t dir wanted product) (system_size t dir) (system_rows t)) × (row < system_rows t) → choice_of 1 (load_list t row) ≡ smallest_choice t dir wanted product menu
    unfolding smallest_choice
    smallest_found h =
        let some = sym (smallest_below (fits t dir wanted product) (system_size t dir) (system_rows t)) ∙ lt-ltb _ _ (rw h.0 at h.1) in
        rw (some, h.0)

  pub smallest_missed : system_rows t ≡ smallest (fits t dir wanted product) (system_size t dir) (system_rows t) → choice_of 3 menu ≡ smallest_choice t dir wanted product menu
  unfolding smallest_choice
  smallest_missed e =
      let none = sym (smallest_below (fits t dir wanted product) (system_size t dir) (system_rows t)) ∙ le-ltb _ _ (le_of_eq e) in
      rw none

  module _ (options : List ℕ) where
    pub small_wanted : smallest_choice t dir wanted product menu ≡ choice_among t dir wanted product options true menu
    unfolding choice_among
    small_wanted = refl

    pub exact_found : {row : ℕ} → (row ≡ first (fits_exactly t dir wanted product options) (system_rows t)) × (row < system_rows t) → choice_of 0 (load_list t row) ≡ choice_among t dir wanted product options false menu
    unfolding choice_among
    exact_found h = rw (found_if (fits_exactly t dir wanted product options) (system_rows t) (rw h.0 at h.1), h.0)

    pub exact_missed : system_rows t ≡ first (fits_exactly t dir wanted product options) (system_rows t) → smallest_choice t dir wanted product menu ≡ choice_among t dir wanted product options false menu
    unfolding choice_among
    exact_missed e = rw (missing_if (fits_exactly t dir wanted product options) (system_rows t) (le_of_eq e))

-- where the directory has no file none fits
module _ (t dir : List ℕ) (wanted product : ℕ) (empty : files dir ≡ 0) where
  misfit : (i : ℕ) → fits t dir wanted product i ≡ false
  unfolding fits in_directory any
  misfit i = and_fails (suits t wanted product i) _ (rw empty)

  none_fits : any (fits t dir wanted product) (system_rows t) ≡ false
  none_fits = none_from (fits t dir wanted product) (system_rows t) (λ i l. misfit i)

  none_fits_exactly : (options : List ℕ) → any (fits_exactly t dir wanted product options) (system_rows t) ≡ false
  unfolding fits_exactly
  none_fits_exactly options = none_from (fits_exactly t dir wanted product options) (system_rows t) (λ i l. rw (misfit i))

  pub menu_alone : (options menu : List ℕ) (small : Bool) → choice_of 3 menu ≡ choice_among t dir wanted product options small menu
  unfolding choice_among smallest_choice
  menu_alone options menu small = rw (and_fails (not small) _ (none_fits_exactly options), none_fits)

-- ---- the lightest so far, in a loop over the systems

abbrev pub LightestSoFar : (ℕ → Bool) → (ℕ → ℕ) → ℕ → ℕ → Option Lightest → Type 0
LightestSoFar p m n i None = (i ≤ n) × (any p i ≡ false)
LightestSoFar p m n i (Some b) = (i ≤ n) × Smallest p m i b.row × (b.size ≡ m b.row)

module _ (p : ℕ → Bool) (m : ℕ → ℕ) (n : ℕ) (above : (i : ℕ) → i < n → m i < 65536) where
  pub lightest_starts : LightestSoFar p m n 0 None
  unfolding any
  lightest_starts = (omega arith, refl)

  taken : (i w : ℕ) → i < n → SmallestSoFar p m 65536 n (i + 1) i w → LightestSoFar p m n (i + 1) (Some (record { row = i; size = w }))
  taken i w l s = ⊎_elim (λ none. absurd (omega (arith, none.1))) (λ some. (s.0, some.0, some.1)) s.1

  kept : (i : ℕ) (b : Lightest) → b.row < n → SmallestSoFar p m 65536 n (i + 1) b.row b.size → LightestSoFar p m n (i + 1) (Some b)
  kept i b l s = ⊎_elim (λ none. absurd (omega (arith, none.1))) (λ some. (s.0, some.0, some.1)) s.1

  pub lightest_on : {i : ℕ} (best : Option Lightest) (size : Option ℕ) → LightestSoFar p m n i best → i < n → Weighs (p i) (m i) size → LightestSoFar p m n (i + 1) (lighter best i size)
  lightest_on {i} None None s l w = (omega arith, (search_on p n {i = i} s l w).1)
  lightest_on {i} (Some b) None s l w =
      kept i b (omega (arith, s.1.below)) (so_far_stays p m 65536 n above (s.0, inr (s.1, s.2)) l 65536 (rw w) (omega (arith, s.2, above b.row (omega (arith, s.1.below)))))
  lightest_on {i} None (Some k) s l w =
      taken i k l (so_far_takes p m 65536 n above {i = i} (s.0, inl (s.1, refl, refl)) l k (rw w.0 w.1) (omega (arith, w.1, above i l)))
  lightest_on {i} (Some b) (Some k) s l w = by_test (ltb k b.size)
      (λ y. rw y (taken i k l (so_far_takes p m 65536 n above (s.0, inr (s.1, s.2)) l k (rw w.0 w.1) (ltb-true _ _ y))))
      (λ z. rw z (kept i b (omega (arith, s.1.below)) (so_far_stays p m 65536 n above (s.0, inr (s.1, s.2)) l k (rw w.0 w.1) (ltb-false _ _ z))))

  pub lightest_found : {i : ℕ} (b : Lightest) → LightestSoFar p m n i (Some b) → n ≤ i → (b.row ≡ smallest p m n) × (b.row < n)
  lightest_found b s g = (so_far_ends p m 65536 n above (s.0, inr (s.1, s.2)) g, omega (arith, s.0, s.1.below))

  pub lightest_missed : {i : ℕ} → LightestSoFar p m n i None → n ≤ i → n ≡ smallest p m n
  lightest_missed {i} s g = so_far_ends p m 65536 n above {i = i} (s.0, inl (s.1, refl, refl)) g

-- a system fits, by the test for no size
module _ (fit : Bool) (size : ℕ) (r : Option ℕ) where
  weighed : Weighs fit size r → is_some r ≡ fit
  weighed = elim r as (λ (o : Option ℕ). Weighs fit size o → is_some o ≡ fit) [ None ↦ λ w. sym w | Some k ↦ λ w. sym w.0 ]

  pub unfit : (none : Bool) → Weighs fit size r → is_some r ≡ not none → none ≡ true → fit ≡ false
  unfit none w is e = sym (weighed w) ∙ is ∙ ap not e

  pub fit_there : (none : Bool) → Weighs fit size r → is_some r ≡ not none → none ≡ false → fit ≡ true
  fit_there none w is e = sym (weighed w) ∙ is ∙ ap not e

-- ---- what a user gets

module _ (x : Tables) (m p u : ℕ) where
  -- he wants full service, and a system has the machine's options
  abbrev pub exactly : Bool
  exactly = not (wants_small x.users u) && any (exact x m u) (system_rows x.systems)

  abbrev pub some : Bool
  some = any (fitting x m u) (system_rows x.systems)

  -- a system with the machine's options fits
  exact_fits : any (exact x m u) (system_rows x.systems) ≡ true → some ≡ true
  unfolding fits_exactly
  exact_fits y =
      let at = first_found (exact x m u) (system_rows x.systems) y in
      any_at (fitting x m u) (system_rows x.systems) (first (exact x m u) (system_rows x.systems)) at.0 (and_left (fitting x m u (first (exact x m u) (system_rows x.systems))) _ at.1)

  -- the three ways
  pub gets_exact : exactly ≡ true → chosen_for x m p u ≡ choice_of 0 (load_list x.systems (exact_of x m u))
  unfolding chosen_for
  gets_exact y = rw y

  pub gets_smallest : exactly ≡ false → some ≡ true → chosen_for x m p u ≡ choice_of 1 (load_list x.systems (smallest_of x m u))
  unfolding chosen_for
  gets_smallest n y = rw (n, y)

  pub gets_menu : some ≡ false → chosen_for x m p u ≡ choice_of 3 (os_menu x.products p)
  unfolding chosen_for
  gets_menu n = rw (not_exactly, n)
    where
      not_exactly : exactly ≡ false
      not_exactly = and_fails (not (wants_small x.users u)) (any (exact x m u) (system_rows x.systems)) (contra (any (exact x m u) (system_rows x.systems)) some exact_fits n)

  -- what is chosen, by the user's wish and the machine's numbers
  pub chosen_among : choice_among x.systems x.directory (wanted_os x.users u) (product_number x.machines m) (machine_options x.machines m) (wants_small x.users u) (os_menu x.products p) ≡ chosen_for x m p u
  unfolding choice_among smallest_choice chosen_for exact_of smallest_of
  chosen_among = refl

-- ---- the user, known or not

module _ (x : Tables) (m p : ℕ) (name password : List ℕ) where
  pub chosen_unknown : user_known x.users name password ≡ false → chosen x m p name password ≡ choice_of 2 (login_please x.products p)
  unfolding chosen
  chosen_unknown n = rw n

  pub chosen_known : user_known x.users name password ≡ true → chosen x m p name password ≡ chosen_for x m p (user_of x.users name password)
  unfolding chosen
  chosen_known y = rw y

  -- a flag of 0 to 3
  pub chosen_flag : (chosen x m p name password).flag < 4
  unfolding chosen chosen_for
  chosen_flag = by_test (user_known x.users name password)
      (λ y. by_test (exactly x m p (user_of x.users name password))
      (λ e. rw (y, e) (omega arith))
      (λ n. by_test (some x m p (user_of x.users name password)) (λ f. rw (y, n, f) (omega arith)) (λ f. rw (y, n, f) (omega arith))))
      (λ n. rw n (omega arith))

-- drives and type-ahead
module _ (x : Tables) (name password : List ℕ) where
  pub drives_unknown : user_known x.users name password ≡ false → configuration_of x name password ≡ no_configuration
  unfolding configuration_of
  drives_unknown n = rw n

  pub drives_known : user_known x.users name password ≡ true → configuration_of x name password ≡ configuration x.configurations (user_of x.users name password)
  unfolding configuration_of
  drives_known y = rw y
