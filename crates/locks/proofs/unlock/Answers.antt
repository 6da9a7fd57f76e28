use Rattle.locks.proofs.Cases.{found_held, missing_held, unlock_illegal, unlock_none, unlock_other, unlock_done}
use Rattle.locks.specs.Table.{owner_at}
use Rattle.locks.specs.Row.{free_row}
use Rattle.rows.specs.Rows.{set_row}
use Rattle.std.proofs.Common.{ℕ, sym, ap, ◌∙◌}
use Rattle.locks.proofs.unlock.Goals as goal

pub returns-then-not-is_legal : goal.returns-then-not-is_legal
returns-then-not-is_legal c = unlock_illegal _ _ _ (sym c.is_legal.ensures.answer ∙ c.if-not-is_legal.true)

pub returns-in_default : goal.returns-in_default
returns-in_default c = unlock_none _ _ _ (sym c.is_legal.ensures.answer ∙ c.if-not-is_legal.false) (missing_held _ _ c.in_default.ensures)

pub returns-then-owner_of-who : goal.returns-then-owner_of-who
returns-then-owner_of-who c =
    let at = c.in-Some.ensures in
    unlock_other _ _ _ (sym c.is_legal.ensures.answer ∙ c.if-not-is_legal.false) (found_held _ _ at) (λ e. c.if-owner_of-who.true (c.owner_of.ensures ∙ ap (owner_at c.args.table.now) at.0 ∙ e))

pub returns : goal.returns
returns c =
    let a = c.args in
    let at = c.in-Some.ensures in
    let g = unlock_done a.table.now a.who a.s (sym c.is_legal.ensures.answer ∙ c.if-not-is_legal.false) (found_held _ _ at) (ap (owner_at a.table.now) (sym at.0) ∙ sym c.owner_of.ensures ∙ c.if-owner_of-who.false) in
    record { answer = g.answer; left = c.put.ensures ∙ ap (λ (k : ℕ). set_row 16 a.table.now k free_row) at.0 ∙ g.left }
