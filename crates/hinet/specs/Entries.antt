-- What each entry returns and leaves. n is the number polled, f the frame, s the site file, t the lock table, w the station records.
use Rattle.std.specs.Prelude.{ℕ, ◌≡◌, Bool, cond, not, eqb, List, Result, Ok, Err}
use Rattle.terms.specs.declared.Address.{Address}
use Rattle.site.specs.declared.Fault.{Fault}
use Rattle.site.specs.Faults.{checked}
use Rattle.site.specs.Places.{Located, At, Faulty, placed_by}
use Rattle.master.specs.Tables.{good_tables}
use Rattle.master.specs.Answers.{Told, answers, no_bytes, fault_told}
use Rattle.master.specs.Frames.{place_told, frame_effect}
use Rattle.hinet.specs.Packing.{word}
use Rattle.master.specs.Effects.{Effect}
use Rattle.master.specs.Fresh.{fresh_effect}
use Rattle.master.specs.Polls.{due_told, poll_effect}

-- the checks: 0 or the refusal, the site file's with its first fault
unfoldable pub tables_word : List ℕ → List ℕ → ℕ
tables_word t w = cond (good_tables t w) 0 11

unfoldable pub checked_told : Result (Unit {0}) Fault → Told
checked_told (Ok u) = answers no_bytes
checked_told (Err x) = fault_told x

unfoldable pub site_told : List ℕ → Told
site_told s = checked_told (checked s)

unfoldable pub site_word : List ℕ → ℕ
site_word s = word (site_told s)

-- volume, partition, track and sector as C gives them: any numbers, and none is cut
unfoldable pub address_of : ℕ → ℕ → ℕ → ℕ → Address
address_of v p t x = record { volume = record { 0 = v }; partition = record { 0 = p }; track = record { 0 = t }; sector = record { 0 = x } }

-- the place of an address: the fault of the site file, or the place and its refusals
unfoldable pub located_told : Located → Told
located_told (Faulty x) = fault_told x
located_told (At p) = place_told p

unfoldable pub place_word : List ℕ → Address → ℕ
place_word s a = word (located_told (placed_by s a))

-- an entry that is lent both tables: the word of what it tells, and the tables that it leaves
pub record Tells (e : Effect (List ℕ)) (r : ℕ) (t' w' : List ℕ) : Type 0 where
  pub answer : r ≡ word e.tells
  pub locks : t' ≡ e.locks
  pub stations : w' ≡ e.records

-- fresh tables
abbrev pub Freshened : List ℕ → List ℕ → ℕ → List ℕ → List ℕ → Type 0
Freshened t w = Tells (fresh_effect t w)

-- one frame
abbrev pub Served : ℕ → List ℕ → List ℕ → List ℕ → List ℕ → ℕ → List ℕ → List ℕ → Type 0
Served n f s t w = Tells (frame_effect n f s t w)

-- one poll turn; `heard` is 0 for not heard, any other number for heard
unfoldable pub is_heard : ℕ → Bool
is_heard n = not (eqb n 0)

abbrev pub Polled : ℕ → ℕ → List ℕ → List ℕ → ℕ → List ℕ → List ℕ → Type 0
Polled n heard t w = Tells (poll_effect n (is_heard heard) t w)

-- is the next turn due
unfoldable pub due_word : ℕ → List ℕ → List ℕ → ℕ
due_word n t w = word (due_told n t w)
