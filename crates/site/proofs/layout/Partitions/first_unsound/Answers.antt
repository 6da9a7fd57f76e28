use Rattle.rows.proofs.IndexLaws.{search_starts, search_on, search_hit, search_ends, fails_at, holds_at}
use mathlib.Core.Path.{sym, ◌∙◌}
use Rattle.site.proofs.layout.Partitions.first_unsound.Goals as goal

pub loop-i-init : goal.loop-i-init
loop-i-init c = search_starts _ _

pub returns-then-not-is_sound : goal.returns-then-not-is_sound
returns-then-not-is_sound c = search_hit _ _ c.loop-i.invariant c.loop-i-test.true (fails_at _ (sym c.is_sound.ensures ∙ c.if-not-is_sound.true))

pub loop-i-preserved : goal.loop-i-preserved
loop-i-preserved c = search_on _ _ c.loop-i.invariant c.loop-i-test.true (holds_at _ (sym c.is_sound.ensures ∙ c.if-not-is_sound.false))

pub returns : goal.returns
returns c = search_ends _ _ c.loop-i.invariant c.loop-i-test.false
