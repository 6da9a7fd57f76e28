use Rattle.std.proofs.Common.{◌≡◌}
use Rattle.tool.proofs.disks.append_line.Given as goal

abbrev pub invariant-loop-size : goal.invariant-loop-size
invariant-loop-size g l = l.page.room.ghost_name ≡ l.fn.page.room.ghost_name
