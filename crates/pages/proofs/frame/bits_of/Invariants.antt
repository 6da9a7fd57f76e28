use Rattle.std.proofs.Common.{◌≤◌}
use Rattle.pages.proofs.frame.bits_of.Given as goal

abbrev pub invariant-loop-c : goal.invariant-loop-c
invariant-loop-c l = l.count ≤ l.c-index
