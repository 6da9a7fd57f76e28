use Rattle.params.specs.Blocks.{block_bytes}
use Rattle.params.proofs.write.Goals as goal

pub returns-in-Cpm : goal.returns-in-Cpm
unfolding block_bytes
returns-in-Cpm c = rw c.in-Cpm.is c.put_block.ensures

pub returns-in-Msdos : goal.returns-in-Msdos
unfolding block_bytes
returns-in-Msdos c = rw c.in-Msdos.is c.put_block-in-Msdos.ensures
