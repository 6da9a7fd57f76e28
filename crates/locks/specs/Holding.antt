-- Who holds which string.
use Rattle.std.specs.Prelude.{ℕ, Bool, ◌&&◌, List, eqb}
use Rattle.rows.specs.Words.{any}
use Rattle.terms.specs.declared.LockString.{LockString}
use Rattle.locks.specs.Table.{row_count, holds_at, owner_at}

-- row i holds s in the name of `who`
unfoldable pub has_at : List ℕ → ℕ → LockString → ℕ → Bool
has_at t who s i = holds_at t s i && eqb (owner_at t i) who

-- s is held in the name of `who`
unfoldable pub has : List ℕ → ℕ → LockString → Bool
has t who s = any (has_at t who s) (row_count t)
