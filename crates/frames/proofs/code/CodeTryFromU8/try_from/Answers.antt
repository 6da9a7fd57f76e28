use native.Mathlib.Omega.{arith}
use mathlib.Core.Path.{refl}
use Rattle.frames.proofs.TableLaws.{unknown_length}
use Rattle.frames.proofs.code.CodeTryFromU8.try_from.Goals as goal

pub returns-in_default : goal.returns-in_default
returns-in_default c = (unknown_length _ (omega arith) (omega arith) (omega arith) (omega arith) (omega arith) (omega arith) (omega arith) (omega arith) (omega arith), refl)
