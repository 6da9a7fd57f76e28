use lib.ListN.{length}
use native.Mathlib.Omega.{arith}
use mathlib.Core.Path.{refl}
use Rattle.frames.specs.Writing.{frame_of, written_of, buffer_after}
use borrow.Author.Tests.{lt-ltb, le-ltb}
use Rattle.frames.proofs.write.Goals as goal

pub returns-then-buffer-length : goal.returns-then-buffer-length
unfolding written_of buffer_after
returns-then-buffer-length c = let a = c.args in
    let short = lt-ltb (length a.buffer.now) (length (frame_of a.q)) (omega (arith, c.length_of-length.ensures)) in
    record { answer = rw short; left = rw short }

pub returns : goal.returns
unfolding written_of buffer_after
returns c = let a = c.args in
    let fits = le-ltb (length a.buffer.now) (length (frame_of a.q)) (omega (arith, c.length_of-length.ensures)) in
    record { answer = rw fits (refl, c.length_of-length.ensures); left = rw fits c.write_frame.ensures }
