use mathlib.Core.Path.{◌≡◌}
use lib.ListN.{drop}
use Rattle.framing.specs.Check.{check_from}
use Rattle.framing.proofs.fcs.add_bytes.Given as goal

abbrev pub invariant-loop-byte : goal.invariant-loop-byte
invariant-loop-byte l = check_from l.register (drop l.byte-index l.bytes) ≡ check_from l.start l.bytes
