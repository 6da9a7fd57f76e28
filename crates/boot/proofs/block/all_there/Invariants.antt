use Rattle.boot.specs.Choice.{name_of}
use Rattle.directory.specs.Directory.{in_directory}
use Rattle.rows.proofs.IndexLaws.{Passing}
use Rattle.boot.proofs.block.all_there.Given as goal

abbrev pub invariant-loop-k : goal.invariant-loop-k
invariant-loop-k l = Passing (λ j. in_directory l.directory (name_of l.list j)) l.k-end l.k
