use Prim.Native.Nat.{◌*◌, ◌≤◌}
use mathlib.Core.Path.{◌≡◌}
use mathlib.Core.List.{◌++◌}
use lib.ListN.{drop}
use Rattle.framing.specs.Bits.{packed}
use Rattle.framing.specs.Inner.{coming}
use Rattle.framing.proofs.runs.Span.copy.Given as goal

abbrev pub invariant-loop-byte : goal.invariant-loop-byte
invariant-loop-byte l =
    (l.r.at ≤ l.self.to) × (coming l.self l.r ≡ drop (8 * l.byte-index) (coming l.self l.initial.r))
    × (l.byte-items ≡ packed l.byte-index (coming l.self l.initial.r) ++ drop l.byte-index l.initial.byte-items)
