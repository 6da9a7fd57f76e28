-- What the entry that chooses the system of a login returns and leaves (02, Req 07). x are the tables, b the buffer.
use Rattle.std.specs.Prelude.{ℕ, List}
use Rattle.rows.specs.Outcomes.{Leaves}
use Rattle.boot.specs.Tables.{Tables}
use Rattle.boot.specs.Choice.{honor}
use Rattle.boot.specs.Answers.{Booted, Refused, Honors, boot_refusal, block_after}
use Rattle.master.specs.Answers.{Told, refuses, answers, honor_flag, answers_unless}
use Rattle.hinet.specs.Packing.{word}

-- a login that is not refused tells the honor flag, and the block stands in the buffer for flags 0 to 3
abbrev pub SystemChosen : Tables → List ℕ → List ℕ → List ℕ → List ℕ → ℕ → List ℕ → Type 0
SystemChosen x serial name password b = Leaves (word (answers_unless (boot_refusal x b) (honor_flag (honor x serial name password)))) (block_after x serial name password b)

-- what the library's answer tells
unfoldable pub booted_told : Booted → Told
booted_told (Refused k) = refuses k
booted_told (Honors flag) = answers (honor_flag flag)
