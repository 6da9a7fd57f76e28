use Rattle.site.specs.Rules.{sound, ranged}
use mathlib.Core.Path.{ap, sym, ◌∙◌}
use Rattle.site.proofs.layout.Partitions.is_sound.Goals as goal

pub returns-then-not-row_ranged : goal.returns-then-not-row_ranged
unfolding sound
returns-then-not-row_ranged c = rw (sym (ap ranged c.row.ensures) ∙ sym c.row_ranged.ensures ∙ c.if-not-row_ranged.true)

pub returns : goal.returns
unfolding sound
returns c = rw (sym (ap ranged c.row.ensures) ∙ sym c.row_ranged.ensures ∙ c.if-not-row_ranged.false) (rw c.args.self.now.begins at c.spare_zero.ensures)
