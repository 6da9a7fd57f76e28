use Rattle.std.proofs.Common.{◌*◌, ◌≤◌}
use Rattle.session.proofs.play_records.Given as goal

abbrev pub invariant-loop-turn : goal.invariant-loop-turn
invariant-loop-turn g l = (l.kept ≤ 256) × (l.session.index ≤ 4096 * l._turn)
