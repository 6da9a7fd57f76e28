use Rattle.std.proofs.Common.{◌∙◌}
use Rattle.rows.proofs.NumberLaws.{part_worth}
use Rattle.rows.proofs.U16LowFirst.low_first_at.Goals as goal

pub returns : goal.returns
returns c = c.from_le_bytes.ensures ∙ part_worth c.args.s.now c.args.at 1 c.array_at.result c.requires c.array_at.ensures
