use mathlib.Core.Path.{refl}
use lib.ListN.{replicate}
use Rattle.std.proofs.lemmas.Result.{err_from_is_err_and}
use Rattle.master.specs.Answers.{told}
use Rattle.master.specs.Line.{received_told}
use Rattle.master.proofs.LineLaws.{line_refused, line_heard}
use Rattle.master.proofs.line.receive.Goals as goal

pub returns-in_err-heading : goal.returns-in_err-heading
unfolding received_told told
returns-in_err-heading c =
    let a = c.args in
    let p = err_from_is_err_and c.from_residual.result c.from_residual.ensures.1 in
    let read = rw c.in_err-heading.was at c.read_start.ensures in
    rw (p.1, p.2) (line_refused a.number a.bits.now a.count a.site.now a.locks.now a.records.now (replicate 21 0) _ _ read)

pub returns : goal.returns
returns c =
    let a = c.args in
    let read = rw c.in_ok-heading.was at c.read_start.ensures in
    line_heard a.number a.bits.now a.count a.site.now a.locks.now a.records.now (replicate 21 0) _ _ refl read c.hear.ensures
