use Rattle.std.proofs.Common.{◌≡◌, ◌*◌, ◌≤◌}
use Rattle.pages.proofs.frame.append_rows.Given as goal

abbrev pub invariant-loop-i : goal.invariant-loop-i
invariant-loop-i l = (8 * l.i ≤ l.walk.place) × (l.walk.place ≤ 16 * l.i) × (l.page.room.ghost_name ≡ l.fn.page.room.ghost_name)
