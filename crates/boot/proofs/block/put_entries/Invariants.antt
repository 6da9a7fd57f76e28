use Rattle.boot.specs.Block.{load_entry}
use Rattle.rows.specs.Rows.{put, join}
use mathlib.Core.Path.{◌≡◌}
use Prim.Native.Nat.{◌≤◌}
use Rattle.boot.proofs.block.put_entries.Given as goal

abbrev pub invariant-loop-k : goal.invariant-loop-k
invariant-loop-k l = (l.k ≤ l.k-end) × (l.block ≡ put l.initial.block 66 (join (load_entry l.directory l.list) l.k))
