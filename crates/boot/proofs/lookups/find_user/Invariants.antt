use Rattle.boot.specs.Tables.{is_user}
use Rattle.rows.proofs.IndexLaws.{Searching}
use Rattle.boot.proofs.lookups.find_user.Given as goal

abbrev pub invariant-loop-i : goal.invariant-loop-i
invariant-loop-i l = Searching (is_user l.users l.fn.name l.password) l.i-end l.i
