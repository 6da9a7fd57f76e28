use Rattle.boot.specs.Tables.{no_configuration, configuration}
use mathlib.Core.Path.{refl}
use borrow.Author.Tests.{lt-ltb, le-ltb}
use Rattle.boot.proofs.Tables.configuration.Goals as goal

pub returns-then-self-i : goal.returns-then-self-i
unfolding configuration no_configuration
returns-then-self-i c = rw (le-ltb _ _ c.if-self-i.true) refl

pub returns : goal.returns
unfolding configuration
returns c = rw (lt-ltb _ _ c.if-self-i.false) c.array_at.ensures
