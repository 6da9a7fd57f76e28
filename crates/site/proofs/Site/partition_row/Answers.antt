use Rattle.site.specs.Layout.{partitions}
use native.Mathlib.Omega.{arith}
use mathlib.Core.Path.{ap}
use Rattle.site.proofs.Site.partition_row.Goals as goal

pub row-requires : goal.row-requires
row-requires c = omega (arith, c.requires, c.partitions.result.counted, ap partitions c.partitions.ensures)

pub returns : goal.returns
returns c = record { answer = rw c.partitions.ensures at c.row.ensures }
