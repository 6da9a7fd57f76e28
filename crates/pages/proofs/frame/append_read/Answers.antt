use Rattle.std.proofs.Common.{arith, sym}
use Rattle.std.proofs.lemmas.List.{length-take-le}
use Rattle.pages.proofs.ReadingLaws.{fits}
use Rattle.pages.proofs.frame.append_read.Goals as goal

pub slice_bounds-data-end : goal.slice_bounds-data-end
slice_bounds-data-end c = omega (arith, fits _ _ _ _ c.in_ok-heading.ensures.answer.0 c.in_ok-heading.ensures.answer.1)

pub slice_bounds-append_reading-end : goal.slice_bounds-append_reading-end
slice_bounds-append_reading-end c = sym (length-take-le _ _ (omega (arith, fits _ _ _ _ c.in_ok-heading.ensures.answer.0 c.in_ok-heading.ensures.answer.1)))
