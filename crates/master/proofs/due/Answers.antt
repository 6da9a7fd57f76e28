use Rattle.std.specs.Prelude.{Err}
use Rattle.rows.specs.Outcomes.{Gives}
use Rattle.refusals.specs.Refusals.{number}
use Rattle.refusals.proofs.OutcomeLaws.{number_never_0}
use Rattle.master.proofs.DueLaws.{due_bad, due_refused, due_seated, due_answered}
use Rattle.master.specs.Answers.{turn_told}
use Rattle.master.specs.Polls.{due_now, station_at, due_told}
use Rattle.who.proofs.WhoLaws.{good_is}
use borrow.Author.Rules.{rules}
use mathlib.Core.Path.{refl, sym, ◌∙◌}
use native.Mathlib.Omega.{arith}
use Rattle.master.proofs.due.Goals as goal

pub returns-then-not-is_good : goal.returns-then-not-is_good
unfolding turn_told
returns-then-not-is_good c = record { answer = sym (due_bad _ _ _ (sym c.is_good.ensures.answer ∙ c.if-not-is_good.true)) }

pub word_of-requires : goal.word_of-requires
word_of-requires c = (good_is _ (sym c.is_good.ensures.answer ∙ c.if-not-is_good.false)).sized

pub returns-in_err-may_turn : goal.returns-in_err-may_turn
unfolding turn_told
returns-in_err-may_turn c = let a = c.args in
    let r = c.in_err-may_turn.field-0.0 in
    let good = sym c.is_good.ensures.answer ∙ c.if-not-is_good.false in
    let refused : Gives (due_told a.number a.locks.now a.records.now) (turn_told (Err r)) = record { answer = sym (due_refused _ _ _ good _ c.word_of.ensures (number r) c.in_err-may_turn.ensures (number_never_0 r)) } in
    search rules

pub station_at-s-requires : goal.station_at-s-requires
station_at-s-requires c =
    let good = sym c.is_good.ensures.answer ∙ c.if-not-is_good.false in
    omega (arith, (good_is _ good).sized, due_seated _ _ _ good _ c.word_of.ensures 0 c.in_ok-may_turn.ensures refl)

pub returns : goal.returns
unfolding turn_told due_now station_at
returns c = let good = sym c.is_good.ensures.answer ∙ c.if-not-is_good.false in
    let told = due_answered _ _ _ good _ c.word_of.ensures 0 c.in_ok-may_turn.ensures refl in
    record { answer = rw (c.is_due-due.ensures.answer, c.station_at-s.ensures) (sym told) }
