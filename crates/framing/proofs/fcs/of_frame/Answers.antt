use Rattle.framing.specs.Check.{check_from, «check»}
use Rattle.framing.proofs.fcs.of_frame.Goals as goal

pub returns : goal.returns
unfolding check check_from
returns c = rw (c.add_bytes.ensures, c.add_byte.ensures)
