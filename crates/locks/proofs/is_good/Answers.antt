use Rattle.locks.proofs.LockRowLaws.{good_normal}
use Rattle.locks.specs.Good.{sound_at}
use Rattle.terms.specs.Tables.{row_in, row_free, row_string}
use Rattle.rows.proofs.IndexLaws.{all_at}
use Rattle.rows.proofs.RowLaws.{length_row}
use Rattle.rows.specs.Numbers.{bit_at}
use Rattle.rows.specs.Rows.{row}
use Rattle.std.proofs.Common.{◌<◌, sym, ◌∙◌, arith}
use Rattle.locks.proofs.is_good.Goals as goal

pub rows_alone-requires : goal.rows_alone-requires
unfolding row_in row_free row_string
rows_alone-requires c =
    let table = c.args.table.now in
    let inside = bit_at c.args.word in
    let rows = c.strings.ensures in
    rw (rows.bytes, rows.shape)
    (λ i l used.
    let low : i < 64 = omega (arith, rows.count) in
    good_normal inside (row 16 table i) (length_row 16 64 table (omega arith) i low) (unfold sound_at in all_at (sound_at inside table) 64 i (sym c.rows_good.ensures ∙ c.if-not-rows_good.false) low) used)
