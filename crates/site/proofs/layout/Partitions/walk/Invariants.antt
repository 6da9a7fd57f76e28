use Rattle.site.proofs.EndLaws.{Walked}
use lib.ListN.{get_or}
use Prim.Native.Nat.{◌≤◌}
use Rattle.site.proofs.layout.Partitions.walk.Given as goal

abbrev pub invariant-loop-k : goal.invariant-loop-k
invariant-loop-k l = (l.k ≤ l.n) × Walked l.self.file.now (λ j. get_or l.order j 0) l.ends l.k
