use Prim.Native.Nat.{ℕ, min}
use borrow.Author.Rules.{rules}
use mathlib.Core.Path.{sym, ap, ◌∙◌}
use lib.ListN.{take}
use Rattle.std.specs.Prelude.{Err}
use Rattle.master.specs.Effects.{Does}
use Rattle.master.specs.Line.{heard_effect, received_told}
use Rattle.master.proofs.LineLaws.{heard_another, heard_served, heard_refused}
use Rattle.master.proofs.line.hear.Goals as goal

pub returns-then-heading-ne0 : goal.returns-then-heading-ne0
returns-then-heading-ne0 c = heard_another _ _ _ _ _ _ c.if-heading-ne0.true

pub returns-in_err-answer : goal.returns-in_err-answer
returns-in_err-answer c =
    let a = c.args in
    let held = c.min-held.ensures ∙ ap (λ (k : ℕ). min k 21) c.from.ensures in
    let e = c.in_err-answer.field-0.0 in
    let served = rw c.in_err-answer.was at c.serve.ensures in
    let refused : Does (heard_effect a.number a.heading.user a.heading.length (take (min a.heading.length 21) a.start.now) a.site.now a.locks.now a.records.now) (received_told (Err e)) c.serve.new.locks c.serve.new.records = rw (sym held) (heard_refused _ _ _ _ _ _ c.if-heading-ne0.false _ _ e served) in
    search rules

pub returns : goal.returns
returns c =
    let held = c.min-held.ensures ∙ ap (λ (k : ℕ). min k 21) c.from.ensures in
    let served = rw c.in_ok-answer.was at c.serve.ensures in
    rw (sym held) (heard_served _ _ _ _ _ _ c.if-heading-ne0.false _ _ _ served)
