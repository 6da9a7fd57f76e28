use Rattle.site.specs.Layout.{row_at}
use Rattle.site.specs.Shortcuts.{number_hash}
use mathlib.Core.Path.{sym}
use native.Mathlib.Omega.{arith}
use Rattle.site.proofs.hashes.number_hash.Goals as goal

pub returns : goal.returns
unfolding number_hash row_at
returns c =
    (rw (sym c.args.partitions.now.begins, c.from-volume.ensures, c.from-number.ensures), omega arith)
