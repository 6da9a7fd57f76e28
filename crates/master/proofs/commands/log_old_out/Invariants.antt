use Rattle.master.proofs.LogoutLaws.{Walked}
use Rattle.master.proofs.commands.log_old_out.Given as goal

abbrev pub invariant-loop-n : goal.invariant-loop-n
invariant-loop-n l = Walked l.initial.locks l.initial.records l.serial l.locks l.records l.n
