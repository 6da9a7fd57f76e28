use Rattle.who.proofs.RecordLaws.{flag_small}
use Rattle.who.proofs.RowLaws.{word_starts, word_on, word_room, length_stations, station_read}
use Rattle.who.specs.declared.Station.{Station}
use Rattle.who.specs.Records.{flag, station_of}
use Rattle.rows.specs.Rows.{row}
use Rattle.who.specs.Good.{stations_of}
use Rattle.who.specs.Inner.{word_of}
use Rattle.std.proofs.Common.{◌≡◌, ◌-◌, ℕ, drop, sym, ap, ◌∙◌, arith}
use Rattle.who.proofs.lent.word_of.Goals as goal

pub loop-n-init : goal.loop-n-init
loop-n-init c = let w = c.args.records.now in word_starts (stations_of w) (length_stations w)

pub overflow_mul-word : goal.overflow_mul-word
overflow_mul-word c =
    let w = c.args.records.now in
    let room = word_room (stations_of w) (length_stations w) c.loop-n-test.true (omega arith) c.loop-n.invariant in
    record { fits = omega (arith, room) }

pub overflow_add-word : goal.overflow_add-word
overflow_add-word c =
    let w = c.args.records.now in
    let room = word_room (stations_of w) (length_stations w) c.loop-n-test.true (omega arith) c.loop-n.invariant in
    record { fits = omega (arith, room, c.bit_of.ensures, flag_small (station_of (row 18 w (c.loop-n.n - 1))).logged) }

pub loop-n-preserved : goal.loop-n-preserved
loop-n-preserved c =
    let w = c.args.records.now in
    let here = sym (ap (λ (s : Station). flag s.logged) (station_read w (c.loop-n.n - 1) (omega arith))) in
    word_on (stations_of w) (length_stations w) c.loop-n-test.true (omega arith) c.loop-n.invariant c.bit_of.result (c.bit_of.ensures ∙ here)

pub returns : goal.returns
returns c =
    let w = c.args.records.now in
    let ended : c.loop-n.n ≡ 0 = omega (arith, c.loop-n-test.false) in
    c.loop-n.invariant ∙ ap (λ (k : ℕ). word_of (drop k (stations_of w))) ended
