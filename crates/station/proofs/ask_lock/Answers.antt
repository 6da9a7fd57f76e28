use borrow.Author.Rules.{rules}
use Rattle.station.proofs.Cases.{ask_short, ask_refused, ask_done}
use Rattle.station.proofs.StateLaws.{parts_make}
use Rattle.station.specs.Asks.{after_lock}
use Rattle.station.specs.State.{list_of}
use Rattle.station.proofs.ask_lock.Goals as goal

pub returns-in_default : goal.returns-in_default
returns-in_default c = ask_short _ _ c.in_default.ensures.cases

pub returns-in_err-may_ask : goal.returns-in_err-may_ask
returns-in_err-may_ask c =
    let parts = c.in-Some.ensures.cases in
    let refused = ask_refused c.args.state.now (after_lock c.args.state.now c.args.s) (parts_make _ parts.0 parts.1) c.in_err-may_ask.field-0.0 c.in_err-may_ask.ensures in search rules

pub returns : goal.returns
unfolding after_lock list_of
returns c =
    let parts = c.in-Some.ensures.cases in
    ask_done c.args.state.now (after_lock c.args.state.now c.args.s) (parts_make _ parts.0 parts.1) c.in_ok-may_ask.ensures (rw (parts.0, c.begin.ensures))
