use Rattle.locks.proofs.Cases.{found_held, missing_held, lock_illegal, lock_own, lock_other, lock_full, lock_granted}
use Rattle.locks.specs.Table.{owner_at, lowest_free}
use Rattle.locks.specs.Row.{row_of}
use Rattle.rows.proofs.IndexLaws.{found_if, missing_if}
use Rattle.rows.specs.Rows.{set_row}
use Rattle.std.proofs.Common.{ℕ, sym, ap, ◌∙◌, arith}
use Rattle.locks.proofs.lock.Goals as goal

pub returns-then-not-is_legal : goal.returns-then-not-is_legal
returns-then-not-is_legal c = lock_illegal _ _ _ (sym c.is_legal.ensures.answer ∙ c.if-not-is_legal.true)

pub returns-then-owner_of-who : goal.returns-then-owner_of-who
returns-then-owner_of-who c =
    let at = c.in-Some.ensures in
    lock_own _ _ _ (sym c.is_legal.ensures.answer ∙ c.if-not-is_legal.false) (found_held _ _ at) (ap (owner_at c.args.table.now) (sym at.0) ∙ sym c.owner_of.ensures ∙ c.if-owner_of-who.true)

pub returns-in-Some : goal.returns-in-Some
returns-in-Some c =
    let at = c.in-Some.ensures in
    lock_other _ _ _ (sym c.is_legal.ensures.answer ∙ c.if-not-is_legal.false) (found_held _ _ at) (λ e. c.if-owner_of-who.false (c.owner_of.ensures ∙ ap (owner_at c.args.table.now) at.0 ∙ e))

pub returns-in_default-lowest_free : goal.returns-in_default-lowest_free
unfolding lowest_free
returns-in_default-lowest_free c =
    lock_full _ _ _ (sym c.is_legal.ensures.answer ∙ c.if-not-is_legal.false) (missing_held _ _ c.in_default.ensures) (missing_if _ _ (omega (arith, c.in_default-lowest_free.ensures)))

pub returns : goal.returns
unfolding lowest_free
returns c =
    let a = c.args in
    let free = c.in-Some-lowest_free.ensures in
    let g = lock_granted a.table.now a.who a.s (sym c.is_legal.ensures.answer ∙ c.if-not-is_legal.false) (missing_held _ _ c.in_default.ensures) (found_if _ _ (rw free.0 at free.1)) in
    record { answer = g.answer; left = c.fill.ensures ∙ ap (λ (k : ℕ). set_row 16 a.table.now k (row_of a.who a.s)) free.0 ∙ g.left }
