use Rattle.hinet.proofs.FrameLaws.{written_short}
use Rattle.frames.proofs.RoundTrips.{Sized}
use native.Mathlib.Omega.{arith}
use lib.ListN.{length}
use borrow.Author.Rules.{rules}
use Rattle.hinet.proofs.requests.compose.Goals as goal

pub overflow_cast-length : goal.overflow_cast-length
overflow_cast-length c =
    let a = c.args in
    let sized : Sized a.q = search rules in
    omega (arith, written_short a.q sized (length a.buffer.now), c.in-Ok.ensures)
