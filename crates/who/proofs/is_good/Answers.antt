use Rattle.who.specs.Good.{good_station, is_row, good_records}
use Rattle.who.proofs.RowLaws.{rules_at, row_each}
use Rattle.rows.proofs.IndexLaws.{pass_breaks}
use mathlib.Core.Bool.{true}
use mathlib.Core.Path.{◌≡◌, sym, ap, ◌∙◌}
use Rattle.who.proofs.is_good.Goals as goal

pub returns-then-not-station_good : goal.returns-then-not-station_good
unfolding good_records
returns-then-not-station_good c =
    let stands : is_row c.args.records.now ≡ true = sym c.is_row.ensures.answer ∙ c.if-not-is_row.false in
    let judged : rules_at c.args.records.now c.loop-n.n ≡ c.station_good.result = sym (c.station_good.ensures ∙ ap (good_station c.loop-n.n) c.station_at.ensures) in
    record { answer = rw (stands, row_each) (pass_breaks _ _ c.loop-n-test.true (judged ∙ c.if-not-station_good.true)) }
