use Rattle.locks.specs.Good.{sound_row, sound_at}
use Rattle.rows.proofs.IndexLaws.{pass_breaks}
use Rattle.rows.specs.Numbers.{bit_at}
use mathlib.Core.Path.{sym, ap, ◌∙◌}
use Rattle.locks.proofs.rules.rows_good.Goals as goal

pub returns-then-not-row_good : goal.returns-then-not-row_good
unfolding sound_at
returns-then-not-row_good c =
    pass_breaks _ _ c.loop-i-test.true (ap (sound_row (bit_at c.args.word)) (sym c.part.ensures) ∙ sym c.row_good.ensures ∙ c.if-not-row_good.true)
