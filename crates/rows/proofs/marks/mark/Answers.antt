use Rattle.rows.specs.Marks.{marked, marking}
use Prim.Native.Nat.{◌/◌}
use native.Mathlib.Omega.{arith}
use Rattle.rows.proofs.marks.mark.Goals as goal

pub overflow_cast-old : goal.overflow_cast-old
overflow_cast-old c = record { fits = omega (arith, (c.slice_known-2-1.given (c.args.h / 32)).fits) }

pub returns : goal.returns
unfolding marked marking
returns c = (c.is_bit.ensures.answer, rw c.bit.ensures)
