-- The running tables: the lock table t and the station records w.
use Rattle.std.specs.Prelude.{Bool, ◌&&◌, List, ℕ}
use Rattle.who.specs.Good.{good_records}
use Rattle.who.specs.Logins.{logged_in}
use Rattle.locks.specs.Good.{good_locks}

-- tables of another size or with any breach: refusal 11
unfoldable pub good_tables : List ℕ → List ℕ → Bool
good_tables t w = good_records w && good_locks (logged_in w) t
