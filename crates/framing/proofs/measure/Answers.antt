use mathlib.Core.Path.{sym, ◌∙◌}
use Rattle.framing.proofs.ScanLaws.{opens_within}
use Rattle.framing.proofs.MeasureLaws.{measured_closed, measured_open, measured_unstopped, measured_stopped}
use borrow.Author.Rules.{rules}
use Rattle.framing.proofs.measure.Goals as goal

pub returns-then-not-opens : goal.returns-then-not-opens
returns-then-not-opens c = measured_closed _ _ (sym c.opens.ensures ∙ c.if-not-opens.true)

pub find-requires : goal.find-requires
find-requires c = opens_within _ _ (sym c.opens.ensures ∙ c.if-not-opens.false)

pub returns-in_err-span : goal.returns-in_err-span
returns-in_err-span c =
    let refused = measured_unstopped c.args.s.now c.args.n (sym c.opens.ensures ∙ c.if-not-opens.false) c.in_err-span.field-0.0 (c.in_err-span.ensures) in search rules

pub returns-in_err-length : goal.returns-in_err-length
returns-in_err-length c =
    let opened = sym c.opens.ensures ∙ c.if-not-opens.false in
    let refused = measured_stopped _ _ c.in_ok-span.span (measured_open c.args.s.now c.args.n opened ∙ c.in_ok-span.ensures) c.in_err-length.field-0.0 c.in_err-length.ensures in search rules

pub returns : goal.returns
returns c = (measured_open _ _ (sym c.opens.ensures ∙ c.if-not-opens.false) ∙ c.in_ok-span.ensures, c.in_ok-length.ensures)
