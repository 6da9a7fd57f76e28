use Rattle.std.proofs.lemmas.Result.{err_from_is_err_and}
use Rattle.site.specs.Places.{placed_by, located, Faulty}
use Rattle.site.proofs.FaultLaws.{checked_is}
use Rattle.site.proofs.PlaceLaws.{placed_ok, placed_err}
use mathlib.Core.Path.{sym, ap, ◌∙◌}
use Rattle.site.proofs.place.Goals as goal

pub returns-in_err-of : goal.returns-in_err-of
unfolding placed_by located
returns-in_err-of c =
    let p = err_from_is_err_and c.from_residual.result c.from_residual.ensures.1 in
    let is = checked_is _ c.in_err-of.ensures in
    rw (p.1, p.2) (record { answer = rw is.0 (ap Faulty (sym is.1)) })

pub returns-in_err-place_in : goal.returns-in_err-place_in
unfolding placed_by located
returns-in_err-place_in c =
    let p = err_from_is_err_and c.from_residual-in_err-place_in.result c.from_residual-in_err-place_in.ensures.1 in
    let of = c.in_ok-of.ensures in
    let good = rw of at c.in_ok-of.field-0.good in
    rw (p.1, p.2) (record { answer = placed_err c.args.file.now c.args.address _ (rw of at c.in_err-place_in.ensures) ∙ rw good })

pub returns : goal.returns
unfolding placed_by located
returns c =
    let of = c.in_ok-of.ensures in
    let good = rw of at c.in_ok-of.field-0.good in
    record { answer = rw good (placed_ok c.args.file.now c.args.address _ (rw of at c.in_ok-place_in.ensures)) }
