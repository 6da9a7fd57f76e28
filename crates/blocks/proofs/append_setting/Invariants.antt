use Rattle.std.proofs.Common.{◌≡◌}
use Rattle.blocks.proofs.append_setting.Given as goal

abbrev pub invariant-loop-letter : goal.invariant-loop-letter
invariant-loop-letter l = l.page.room.ghost_name ≡ l.fn.page.room.ghost_name
