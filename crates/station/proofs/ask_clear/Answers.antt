use borrow.Author.Rules.{rules}
use mathlib.Core.Path.{ap, ◌∙◌}
use Prim.Native.Nat.{ℕ}
use mathlib.Core.List.{List}
use lib.ListN.{length, replicate}
use Rattle.station.proofs.Cases.{ask_short, ask_refused, ask_done}
use Rattle.station.proofs.StateLaws.{parts_make}
use Rattle.station.specs.Asks.{after_clear, awaited}
use Rattle.station.specs.State.{list_of}
use Rattle.station.proofs.ask_clear.Goals as goal

pub returns-in_default : goal.returns-in_default
returns-in_default c = ask_short _ _ c.in_default.ensures.cases

pub returns-in_err-may_ask : goal.returns-in_err-may_ask
returns-in_err-may_ask c =
    let parts = c.in-Some.ensures.cases in
    let refused = ask_refused c.args.state.now (after_clear c.args.state.now) (parts_make _ parts.0 parts.1) c.in_err-may_ask.field-0.0 c.in_err-may_ask.ensures in search rules

pub returns : goal.returns
unfolding after_clear awaited list_of
returns c =
    let parts = c.in-Some.ensures.cases in
    ask_done c.args.state.now (after_clear c.args.state.now) (parts_make _ parts.0 parts.1) c.in_ok-may_ask.ensures (rw (c.fill.ensures.after (λ y e. e) ∙ ap (λ (l : List ℕ). replicate (length l) 0) parts.0, c.begin.ensures))
