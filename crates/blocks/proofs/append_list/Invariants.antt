use Rattle.std.proofs.Common.{◌≡◌}
use Rattle.blocks.proofs.append_list.Given as goal

abbrev pub invariant-loop-k : goal.invariant-loop-k
invariant-loop-k l = l.page.room.ghost_name ≡ l.fn.page.room.ghost_name
