use Rattle.boot.specs.Choice.{name_of, all_there}
use Rattle.directory.specs.Directory.{in_directory}
use Rattle.boot.proofs.BlockLaws.{file_missing, file_there}
use Rattle.rows.proofs.IndexLaws.{pass_starts, pass_on, pass_breaks, pass_ends}
use Rattle.boot.proofs.block.all_there.Goals as goal

pub loop-k-init : goal.loop-k-init
loop-k-init c = pass_starts _ _

pub returns-then-is_none : goal.returns-then-is_none
unfolding all_there
returns-then-is_none c = pass_breaks (λ j. in_directory _ (name_of _ j)) _ c.loop-k-test.true (file_missing _ _ c.file_at.result c.file_at.ensures c.is_none.result c.is_none.ensures c.if-is_none.true)

pub loop-k-preserved : goal.loop-k-preserved
loop-k-preserved c = pass_on _ _ c.loop-k.invariant c.loop-k-test.true (file_there _ _ c.file_at.result c.file_at.ensures c.is_none.result c.is_none.ensures c.if-is_none.false)

pub returns : goal.returns
unfolding all_there
returns c = pass_ends (λ j. in_directory _ (name_of _ j)) _ c.loop-k.invariant c.loop-k-test.false
