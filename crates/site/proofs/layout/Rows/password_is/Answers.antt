use Rattle.site.specs.Layout.{password_at}
use Rattle.rows.specs.Words.{same}
use Prim.Native.Nat.{ℕ}
use mathlib.Core.List.{List}
use mathlib.Core.Path.{ap, ◌∙◌}
use Rattle.site.proofs.layout.Rows.password_is.Goals as goal

pub returns : goal.returns
unfolding password_at
returns c = c.is_same.ensures.answer ∙ ap (λ (l : List ℕ). same l c.args.password.now) c.part.ensures
