-- Contracts of the inside: the system that a user gets, and what is answered and left once the names are chosen.
use Rattle.std.specs.Prelude.{ℕ, ◌≡◌, Bool, true, false, cond, not, ◌&&◌, List, Option, Some, None, ltb}
use Rattle.rows.specs.Words.{any, first, smallest}
use Rattle.rows.specs.Rows.{over}
use Rattle.rows.specs.Outcomes.{Leaves}
use Rattle.boot.specs.Tables.{Tables}
use Rattle.boot.specs.declared.systems.Lightest.{Lightest}
use Rattle.boot.specs.Systems.{system_rows, load_list, fits, system_size, fits_exactly}
use Rattle.boot.specs.Choice.{Choice, choice_of, all_there, honor}
use Rattle.boot.specs.Block.{block_of}
use Rattle.boot.specs.Answers.{written}

-- a system's size, where it fits
abbrev pub Weighs : Bool → ℕ → Option ℕ → Type 0
Weighs fit size (Some k) = (fit ≡ true) × (k ≡ size)
Weighs fit size None = fit ≡ false

-- the lighter of the lightest so far and of system i, where that fits
abbrev pub lighter : Option Lightest → ℕ → Option ℕ → Option Lightest
lighter best i None = best
lighter None i (Some w) = Some (record { row = i; size = w })
lighter (Some b) i (Some w) = cond (ltb w b.size) (Some (record { row = i; size = w })) (Some b)

-- the smallest system that fits, or OS Menu; and where the small system is not wanted, the exact one before it
unfoldable pub smallest_choice : List ℕ → List ℕ → ℕ → ℕ → List ℕ → Choice
smallest_choice t dir wanted product menu =
    cond (any (fits t dir wanted product) (system_rows t))
    (choice_of 1 (load_list t (smallest (fits t dir wanted product) (system_size t dir) (system_rows t))))
    (choice_of 3 menu)

unfoldable pub choice_among : List ℕ → List ℕ → ℕ → ℕ → List ℕ → Bool → List ℕ → Choice
choice_among t dir wanted product options small menu =
    cond (not small && any (fits_exactly t dir wanted product options) (system_rows t))
    (choice_of 0 (load_list t (first (fits_exactly t dir wanted product options) (system_rows t))))
    (smallest_choice t dir wanted product menu)

-- a choice sent: its flag and block, or 4 and nothing where a name is not in the directory
unfoldable pub sent_flag : List ℕ → Choice → ℕ
sent_flag dir choice = cond (all_there dir choice.names) choice.flag 4

unfoldable pub sent_block : List ℕ → List ℕ → ℕ → Choice → List ℕ → List ℕ
sent_block dir c io choice b = cond (all_there dir choice.names) (over (block_of dir c io choice) b) b

abbrev pub Sends : List ℕ → List ℕ → ℕ → Choice → List ℕ → ℕ → List ℕ → Type 0
Sends dir c io choice b = Leaves (sent_flag dir choice) (sent_block dir c io choice b)

-- what is answered and left where nothing is refused
abbrev pub Answers : Tables → List ℕ → List ℕ → List ℕ → List ℕ → ℕ → List ℕ → Type 0
Answers x serial name password b = Leaves (honor x serial name password) (written x serial name password b)
