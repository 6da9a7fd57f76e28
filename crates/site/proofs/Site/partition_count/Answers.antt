use Rattle.site.specs.Layout.{partitions}
use mathlib.Core.Path.{ap, ◌∙◌}
use Rattle.site.proofs.Site.partition_count.Goals as goal

pub returns : goal.returns
returns c = record { answer = c.partitions.result.counted ∙ ap partitions c.partitions.ensures }
