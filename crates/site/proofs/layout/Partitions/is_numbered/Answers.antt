use Rattle.site.specs.Rules.{numbered, partition_numbered}
use Rattle.site.specs.Layout.{row_at}
use mathlib.Core.Path.{sym}
use borrow.Author.Tests.{eq-eqb, ne_eqb}
use Rattle.site.proofs.layout.Partitions.is_numbered.Goals as goal

pub returns-then-self-at : goal.returns-then-self-at
unfolding partition_numbered numbered row_at
returns-then-self-at c = rw (sym c.args.self.now.begins) (rw (ne_eqb _ _ c.if-self-at.true))

pub returns : goal.returns
unfolding partition_numbered numbered row_at
returns c = rw (sym c.args.self.now.begins) (rw (eq-eqb _ _ c.if-self-at.false))
