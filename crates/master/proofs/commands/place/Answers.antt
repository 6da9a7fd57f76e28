use Rattle.std.proofs.lemmas.Result.{err_from_is_err_and}
use Rattle.refusals.proofs.OutcomeLaws.{number_never_0}
use Rattle.master.specs.Frames.{place_told}
use Rattle.master.specs.Answers.{told}
use borrow.Author.Tests.{ne_eqb}
use Rattle.master.proofs.commands.place.Goals as goal

pub returns-in_err-place : goal.returns-in_err-place
unfolding told place_told
returns-in_err-place c =
    let p = err_from_is_err_and c.from_residual.result c.from_residual.ensures.1 in
    rw (p.1, p.2, c.in_err-place.ensures, ne_eqb _ 0 (number_never_0 c.in_err-place.field-0.0))

pub returns : goal.returns
unfolding told place_told
returns c = rw (c.in_ok-place.ensures.0, c.in_ok-place.ensures.1)
