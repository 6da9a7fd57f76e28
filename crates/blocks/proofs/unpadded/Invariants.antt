use Rattle.std.proofs.Common.{◌≤◌, length}
use Rattle.blocks.proofs.unpadded.Given as goal

abbrev pub invariant-loop-left : goal.invariant-loop-left
invariant-loop-left l = length l.left ≤ length l.name

abbrev pub decreases-loop-left : goal.decreases-loop-left
decreases-loop-left l = length l.left
