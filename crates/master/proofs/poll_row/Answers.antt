use native.Mathlib.Omega.{arith}
use borrow.Author.Rules.{rules}
use Rattle.std.specs.Prelude.{Err}
use Rattle.who.specs.Row.{station_in}
use Rattle.master.specs.RowPolls.{RowPolls}
use Rattle.master.proofs.RowPollLaws.{roll_none, row_bad, row_refused, row_below, row_inside, row_counted, row_turned}
use Rattle.master.proofs.poll_row.Goals as goal

pub returns-in_default : goal.returns-in_default
returns-in_default c = let a = c.args in row_bad a.number a.heard a.row.now a.locks.now (roll_none _ c.in_default.ensures.answer)

pub returns-in_err-may_turn : goal.returns-in_err-may_turn
returns-in_err-may_turn c = let a = c.args in
    let refused : RowPolls a.number a.heard a.row.now a.locks.now (Err c.in_err-may_turn.field-0.0) a.row.now a.locks.now = row_refused a.number a.heard a.row.now a.locks.now _ c.in-Some.ensures.answer _ c.in_err-may_turn.ensures in
    search rules

pub bounds-row-number : goal.bounds-row-number
bounds-row-number c = let a = c.args in row_inside a.number a.heard a.row.now a.locks.now _ c.in-Some.ensures.answer c.in_ok-may_turn.ensures

pub overflow_cast-number : goal.overflow_cast-number
overflow_cast-number c = let a = c.args in record { fits = omega (arith, row_below a.number a.heard a.row.now a.locks.now _ c.in-Some.ensures.answer c.in_ok-may_turn.ensures) }

pub turn-requires : goal.turn-requires
unfolding station_in
turn-requires c = let a = c.args in row_counted a.number a.heard a.row.now a.locks.now _ c.in-Some.ensures.answer c.in_ok-may_turn.ensures

pub returns : goal.returns
unfolding station_in
returns c = let a = c.args in row_turned a.number a.heard a.row.now a.locks.now _ c.in-Some.ensures.answer c.in_ok-may_turn.ensures _ _ _ c.turn.ensures
