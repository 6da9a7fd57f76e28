use borrow.Author.Tests.{le-leb, lt-leb}
use Rattle.params.specs.Tables.{sized}
use Rattle.params.proofs.is_size.Goals as goal

pub returns-then-size-lt1 : goal.returns-then-size-lt1
unfolding sized
returns-then-size-lt1 c = rw (lt-leb _ _ c.if-size-lt1.true)

pub returns : goal.returns
unfolding sized
returns c = rw (le-leb _ _ c.if-size-lt1.false)
