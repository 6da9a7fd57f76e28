use Rattle.boot.specs.Choice.{name_of}
use native.Mathlib.Omega.{arith}
use Rattle.boot.proofs.block.file_at.Goals as goal

pub overflow_mul-k : goal.overflow_mul-k
overflow_mul-k c = omega (arith, c.requires)

pub array_in-requires : goal.array_in-requires
array_in-requires c = omega (arith, c.requires)

pub returns : goal.returns
unfolding name_of
returns c = rw c.array_in.ensures at c.find.ensures
