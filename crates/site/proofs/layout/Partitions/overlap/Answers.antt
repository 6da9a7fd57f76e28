use Rattle.site.specs.Rules.{overlap, partitions_overlap}
use Rattle.site.specs.Layout.{row_at}
use mathlib.Core.Path.{sym}
use borrow.Author.Tests.{eq-eqb, ne_eqb}
use native.Mathlib.Omega.{arith}
use Rattle.site.proofs.layout.Partitions.overlap.Goals as goal

pub returns-then-self-a : goal.returns-then-self-a
unfolding partitions_overlap overlap row_at
returns-then-self-a c = rw (sym c.args.self.now.begins) (rw (ne_eqb _ _ c.if-self-a.true))

pub rows_meet-requires : goal.rows_meet-requires
rows_meet-requires c = record { a_in_bounds = (omega arith, omega arith); a_value = rw c.args.self.now.begins c.requires.i_value }

pub returns : goal.returns
unfolding partitions_overlap overlap row_at
returns c = rw (sym c.args.self.now.begins) (rw (eq-eqb _ _ c.if-self-a.false) c.rows_meet.ensures)
