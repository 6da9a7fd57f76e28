use Rattle.rows.specs.Words.{same}
use borrow.Author.Tests.{ne_eqb}
use Rattle.rows.proofs.is_same.Goals as goal

pub returns-then-n-b : goal.returns-then-n-b
unfolding same
returns-then-n-b c = record { answer = rw (ne_eqb _ _ c.if-n-b.true) }
