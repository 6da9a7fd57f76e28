use Rattle.std.proofs.lemmas.Result.{err_from_is_err_and}
use Rattle.std.specs.Prelude.{Err}
use Rattle.refusals.specs.declared.Refusal.TheVariants.{BadTables}
use Rattle.site.specs.declared.Refused.TheVariants.{Site}
use Rattle.site.specs.declared.Fault.{Fault}
use Rattle.site.proofs.FaultLaws.{checked_is}
use Rattle.master.specs.Frames.{Serves}
use Rattle.master.proofs.ServeLaws.{serves_refused, serves_faulty, bad_tables, bad_site}
use native.Mathlib.Omega.{arith}
use mathlib.Core.Path.{sym, subst, ◌∙◌}
use Rattle.master.proofs.serve.Goals as goal

pub returns-then-not-tables_good : goal.returns-then-not-tables_good
returns-then-not-tables_good c = serves_refused _ _ _ _ _ BadTables (bad_tables _ _ _ _ _ (sym c.tables_good.ensures.answer ∙ c.if-not-tables_good.true)) (λ e. omega arith)

pub returns-in_err-site : goal.returns-in_err-site
returns-in_err-site c =
    let a = c.args in
    let p = err_from_is_err_and c.from_residual.result c.from_residual.ensures.1 in
    let is = checked_is _ c.in_err-site.ensures in
    rw (p.1, p.2) (subst (λ (x : Fault). Serves a.number a.frame.now a.site.now a.locks.now a.records.now (Err (Site x)) a.locks.now a.records.now) is.1
    (serves_faulty _ _ _ _ _ (bad_site _ _ _ _ _ (sym c.tables_good.ensures.answer ∙ c.if-not-tables_good.false) is.0)))

pub act-requires : goal.act-requires
act-requires c =
    sym c.tables_good.ensures.answer ∙ c.if-not-tables_good.false

pub returns : goal.returns
returns c = rw c.in_ok-site.ensures at c.act.ensures
