use mathlib.Core.Path.{refl, sym, ◌∙◌}
use Rattle.master.specs.Polls.{with_counts}
use Rattle.master.proofs.RowPollLaws.{turns_12, turns_out, turns_on}
use Rattle.master.proofs.poll.turn.Goals as goal

pub returns-then-is_early : goal.returns-then-is_early
returns-then-is_early c = turns_12 _ _ _ _ _ c.turn_of-turn.ensures (sym c.is_early.ensures ∙ c.if-is_early.true)

pub returns-then-turn : goal.returns-then-turn
returns-then-turn c = turns_out _ _ _ _ _ c.turn_of-turn.ensures (sym c.is_early.ensures ∙ c.if-is_early.false) _ _ c.if-turn.true c.vacant.ensures.answer c.free_all.ensures

pub returns-else-turn : goal.returns-else-turn
unfolding with_counts
returns-else-turn c = turns_on _ _ _ _ _ c.turn_of-turn.ensures (sym c.is_early.ensures ∙ c.if-is_early.false) _ _ c.if-turn.false refl refl
