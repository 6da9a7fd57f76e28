use mathlib.Core.Path.{sym, ap, subst, ◌∙◌}
use native.Mathlib.Omega.{arith}
use lib.Dec.{eqb}
use Prim.Native.Nat.{ℕ}
use Rattle.std.proofs.lemmas.Result.{err_from_is_err_and}
use Rattle.refusals.proofs.OutcomeLaws.{number_never_0}
use Rattle.frames.proofs.ReadLaws.{code_kept}
use Rattle.frames.specs.Writing.{code_of}
use Rattle.frames.specs.Table.{LOGIN}
use Rattle.frames.specs.declared.Request.{Request}
use Rattle.who.proofs.WhoLaws.{logged_below}
use Rattle.master.specs.Inner.{Performs}
use Rattle.master.proofs.TableLaws.{sized}
use Rattle.master.proofs.ServeLaws.{serves_refused, stops, serves_done}
use Rattle.master.proofs.RefusalLaws.{passed, tests_low, number_small, seat_in}
use Rattle.master.proofs.act.Goals as goal

pub returns-in_err-request : goal.returns-in_err-request
returns-in_err-request c =
    let a = c.args in
    let first = c.in_err-request.ensures in
    let p = err_from_is_err_and c.from_residual.result c.from_residual.ensures.1 in
    rw (p.1, p.2) (serves_refused _ _ _ _ _ _ (stops _ _ _ _ _ c.requires a.site.now.good (λ z. number_never_0 _ (sym first ∙ z)) ∙ first) (λ z. omega (arith, z, first, tests_low a.number a.frame.now a.records.now 0 (omega arith))))

pub overflow_cast-number : goal.overflow_cast-number
overflow_cast-number c = record { fits = number_small c.args.number c.args.frame.now c.args.records.now (sized c.args.locks.now c.args.records.now c.requires) (passed _ _ _ c.in_ok-request.ensures.0) }

pub perform-requires : goal.perform-requires
perform-requires c = let a = c.args in
    let p = passed a.number a.frame.now a.records.now c.in_ok-request.ensures.0 in
    let long = sized a.locks.now a.records.now c.requires in
    let read = c.in_ok-request.ensures.1 in record {
      records_value = c.requires;
      number_lt_numbers = λ h. logged_below a.records.now long a.number (seat_in a.number a.frame.now a.records.now long p
          (sym (ap (λ (k : ℕ). eqb k LOGIN) (ap (λ (q : Request). code_of q.command) read ∙ code_kept a.frame.now p.reads)) ∙ h));
    }

pub returns : goal.returns
returns c = let a = c.args in
    serves_done a.number a.frame.now a.site.now.file.now a.locks.now a.records.now c.requires a.site.now.good c.in_ok-request.ensures.0 _ _ _
    (subst (λ (q : Request). Performs q a.number a.site.now.file.now a.locks.now a.records.now c.perform.result c.perform.new.locks c.perform.new.records) c.in_ok-request.ensures.1 c.perform.ensures)
