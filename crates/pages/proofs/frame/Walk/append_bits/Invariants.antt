use Rattle.std.proofs.Common.{◌+◌, ◌*◌, ◌≤◌}
use Rattle.pages.proofs.frame.Walk.append_bits.Given as goal

abbrev pub invariant-loop-k : goal.invariant-loop-k
invariant-loop-k l = (l.fn.self.place + l.k ≤ l.self.place) × (l.self.place ≤ l.fn.self.place + 2 * l.k)
