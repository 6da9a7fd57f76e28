use native.Mathlib.Omega.{arith}
use Rattle.framing.proofs.TakeLaws.{rest_small}
use Rattle.framing.proofs.take.rest_of.Goals as goal

pub invariant_of-result : goal.invariant_of-result
invariant_of-result c = let t = c.args.t in record { short = omega (arith, t.short); small = rest_small t.held t.acc t.small c.requires; few = t.few }
