use Rattle.boot.specs.Tables.{product_rows}
use Rattle.boot.proofs.TableLaws.{finds_or}
use mathlib.Core.Path.{◌∙◌}
use Rattle.boot.proofs.lookups.product_rows.Goals as goal

pub returns : goal.returns
unfolding product_rows
returns c = c.unwrap_or.ensures ∙ finds_or _ _ c.find.result c.find.ensures
