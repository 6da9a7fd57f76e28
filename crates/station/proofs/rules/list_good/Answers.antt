use Rattle.station.proofs.PlaceLaws.{place_normal}
use Rattle.station.specs.Good.{good_at, good_list}
use Rattle.station.specs.State.{place_count}
use Rattle.terms.specs.Tables.{row_in, row_free, row_string}
use Rattle.rows.proofs.IndexLaws.{all_at}
use Rattle.rows.proofs.RowLaws.{length_row}
use lib.ListN.{length}
use mathlib.Core.Path.{sym, ◌∙◌}
use native.Mathlib.Omega.{arith}
use Prim.Native.Nat.{◌*◌, ◌≤◌}
use Rattle.station.proofs.rules.list_good.Goals as goal

pub returns-then-not-places_good : goal.returns-then-not-places_good
unfolding good_list
returns-then-not-places_good c = rw (sym c.places_good.ensures ∙ c.if-not-places_good.true)

pub rows_alone-requires : goal.rows_alone-requires
unfolding good_at row_in row_free row_string
rows_alone-requires c =
    let l = c.args.list.now in
    let n = place_count l in
    let sized : 14 * n ≤ length l = omega arith in
    rw (c.strings.ensures.bytes, c.strings.ensures.shape, c.strings.ensures.count)
    (λ i b used. place_normal l i (length_row 14 n l sized i b) (all_at (good_at l) n i (sym c.places_good.ensures ∙ c.if-not-places_good.false) b) used)

pub returns-then-used_first : goal.returns-then-used_first
unfolding good_list
returns-then-used_first c = rw (sym c.places_good.ensures ∙ c.if-not-places_good.false, sym c.used_first.ensures ∙ c.if-used_first.true) (rw (c.strings.ensures.bytes, c.strings.ensures.count, c.strings.ensures.shape) at c.rows_alone.ensures)

pub returns-else-used_first : goal.returns-else-used_first
unfolding good_list
returns-else-used_first c = rw (sym c.places_good.ensures ∙ c.if-not-places_good.false, sym c.used_first.ensures ∙ c.if-used_first.false) c.if-used_first.false
