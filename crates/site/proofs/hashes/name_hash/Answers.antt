use Rattle.site.specs.Shortcuts.{name_hash}
use Rattle.rows.specs.Marks.{hash}
use Prim.Native.Nat.{ℕ, ◌/◌, ◌%◌}
use mathlib.Core.Path.{ap, ◌∙◌}
use Rattle.site.proofs.hashes.name_hash.Goals as goal

pub returns : goal.returns
unfolding name_hash
returns c = (c.hash.ensures.0 ∙ ap (λ (s : ℕ). hash (s % 4294967296) (s / 4294967296) 0 0) c.solid_of-solid.ensures, c.hash.ensures.1)
