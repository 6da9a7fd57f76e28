use Rattle.locks.proofs.LockRowLaws.{freed_long}
use Rattle.locks.specs.Table.{row_count, cleared_table}
use Rattle.locks.specs.Row.{freed}
use Rattle.rows.proofs.RowLaws.{each_row_none, each_row_more, row_each_row_out}
use Rattle.rows.specs.Rows.{row, each_row}
use Rattle.std.proofs.Common.{◌≡◌, ℕ, ap, ◌∙◌, arith}
use Rattle.locks.proofs.free_all.Goals as goal

pub loop-i-init : goal.loop-i-init
loop-i-init c = each_row_none _ _ _

pub loop-i-preserved : goal.loop-i-preserved
loop-i-preserved c =
    let a = c.args in
    let t = a.table.now in
    let i = c.loop-i.i in
    let same : row 16 (each_row 16 (freed a.who) i t) i ≡ row 16 t i = row_each_row_out 16 (freed a.who) (freed_long a.who) (row_count t) t (omega arith) i i (omega arith) c.loop-i-test.true in
    c.free_if_of.ensures ∙ rw c.loop-i.invariant (rw (same, each_row_more 16 (freed a.who) i t))

pub returns : goal.returns
unfolding cleared_table
returns c =
    c.loop-i.invariant
    ∙ ap (λ (k : ℕ). each_row 16 (freed c.args.who) k c.args.table.now) (omega (arith, c.loop-i-test.false))
