use mathlib.Core.Path.{sym, ◌∙◌}
use Rattle.frames.specs.Requests.{plain}
use Rattle.station.specs.State.{wait_of}
use Rattle.station.proofs.Cases.{send_bad_state, send_none, send_frame}
use Rattle.station.proofs.StateLaws.{too_short, parts_make}
use Rattle.station.proofs.WaitLaws.{state_wait, frame_none, frame_some}
use Rattle.station.proofs.send.Goals as goal

pub returns-in_default : goal.returns-in_default
returns-in_default c = send_bad_state _ _ (too_short _ c.in_default.ensures.cases)

pub returns-then-not-parts_good : goal.returns-then-not-parts_good
returns-then-not-parts_good c =
    let parts = c.in-Some.ensures.cases in
    send_bad_state _ _ (rw (parts_make _ parts.0 parts.1) at (sym c.parts_good.ensures ∙ c.if-not-parts_good.true))

pub returns-in_default-command : goal.returns-in_default-command
unfolding wait_of
returns-in_default-command c =
    let st = c.args.state.now in
    let parts = c.in-Some.ensures.cases in
    let good = rw (parts_make st parts.0 parts.1) at (sym c.parts_good.ensures ∙ c.if-not-parts_good.false) in
    let none = rw parts.1 at c.in_default-command.ensures in
    send_none _ _ good (frame_none (state_wait st good) none)

pub returns : goal.returns
unfolding plain wait_of
returns c =
    let st = c.args.state.now in
    let parts = c.in-Some.ensures.cases in
    let good = rw (parts_make st parts.0 parts.1) at (sym c.parts_good.ensures ∙ c.if-not-parts_good.false) in
    let some = rw parts.1 at c.in-Some-command.ensures in
    send_frame st c.args.buffer.now good _ (rw (c.plain.ensures.answer, c.string.ensures, parts.1) (frame_some (state_wait st good) some)) c.write.ensures
