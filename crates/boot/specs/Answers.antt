-- What a login is answered, and what it leaves in the buffer b.
use Rattle.std.specs.Prelude.{ℕ, cond, not, List, Result, Ok, Err, eqb, ltb, length}
use Rattle.rows.specs.Outcomes.{Leaves}
use Rattle.rows.specs.Rows.{over}
use Rattle.refusals.specs.declared.Refusal.{Refusal}
use Rattle.refusals.specs.Refusals.{number}
use Rattle.boot.specs.declared.Honor.{Honor}
use Rattle.boot.specs.Tables.{Tables, all_whole}
use Rattle.boot.specs.Honors.{flag_of}
use Rattle.boot.specs.Choice.{honor}
use Rattle.boot.specs.Block.{boot_block}

-- 23 for a table not of whole rows or over 001's limit, then 13 under 194 bytes; 0 for none
unfoldable pub boot_refusal : Tables → List ℕ → ℕ
boot_refusal x b = cond (not (all_whole x)) 23 (cond (ltb (length b) 194) 13 0)

-- the block stands at the start of the buffer, and the bytes after it stay, for flags 0 to 3; flag 4 writes nothing
unfoldable pub written : Tables → List ℕ → List ℕ → List ℕ → List ℕ → List ℕ
written x serial name password b = cond (ltb (honor x serial name password) 4) (over (boot_block x serial name password) b) b

-- what a login is answered: a refusal, or an honor flag
pub data Booted : Type 0 where
  Refused : ℕ → Booted
  Honors : ℕ → Booted

-- what the typed answer says of these: no two answers say the same
unfoldable pub booted : Result Honor Refusal → Booted
booted (Ok h) = Honors (flag_of h)
booted (Err r) = Refused (number r)

-- the refusal, or the honor flag
unfoldable pub boot_answer : Tables → List ℕ → List ℕ → List ℕ → List ℕ → Booted
boot_answer x serial name password b =
    cond (eqb (boot_refusal x b) 0) (Honors (honor x serial name password)) (Refused (boot_refusal x b))

-- a refusal writes nothing
unfoldable pub block_after : Tables → List ℕ → List ℕ → List ℕ → List ℕ → List ℕ
block_after x serial name password b = cond (eqb (boot_refusal x b) 0) (written x serial name password b) b

abbrev pub Boots : Tables → List ℕ → List ℕ → List ℕ → List ℕ → Result Honor Refusal → List ℕ → Type 0
Boots x serial name password b r =
    Leaves (boot_answer x serial name password b) (block_after x serial name password b) (booted r)
