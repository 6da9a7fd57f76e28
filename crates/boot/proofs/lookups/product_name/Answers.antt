use Rattle.boot.proofs.TableLaws.{product_row}
use native.Mathlib.Omega.{arith}
use Rattle.boot.proofs.lookups.product_name.Goals as goal

pub overflow_mul-p : goal.overflow_mul-p
overflow_mul-p c = omega (arith, product_row _ _ c.requires.0)

pub overflow_add-p : goal.overflow_add-p
overflow_add-p c = omega (arith, product_row _ _ c.requires.0)

pub array_in-requires : goal.array_in-requires
array_in-requires c = omega (arith, product_row _ _ c.requires.0)
