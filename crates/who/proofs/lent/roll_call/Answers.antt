use Rattle.who.proofs.RecordLaws.{flag_small}
use Rattle.who.proofs.RowLaws.{word_starts, word_on, word_room, roll_none, roll_some}
use Rattle.who.specs.Records.{flag}
use Rattle.who.specs.Good.{good_station}
use Rattle.who.specs.Inner.{word_of}
use Rattle.who.specs.Row.{station_in}
use Rattle.rows.proofs.BoolLaws.{by_eq}
use Rattle.std.proofs.Common.{◌≡◌, ◌-◌, ℕ, true, drop, Some, sym, ap, ◌∙◌, rules, arith}
use Rattle.who.proofs.lent.roll_call.Goals as goal

pub loop-n-init : goal.loop-n-init
loop-n-init c = record {
  each = λ k g l. absurd (omega (arith, g, l));
  word_is = word_starts c.args.row.now c.if-row-ne-NUMBERS.false;
}

pub returns-then-not-station_good : goal.returns-then-not-station_good
unfolding station_in
returns-then-not-station_good c = record { answer = roll_none c.args.row.now (c.loop-n.n - 1) (omega arith) (sym c.station_good.ensures ∙ c.if-not-station_good.true) }

pub overflow_mul-word : goal.overflow_mul-word
overflow_mul-word c =
    let room = word_room c.args.row.now c.if-row-ne-NUMBERS.false c.loop-n-test.true (omega arith) c.loop-n.invariant.word_is in
    record { fits = omega (arith, room) }

pub overflow_add-word : goal.overflow_add-word
unfolding station_in flag
overflow_add-word c =
    let s = station_in c.args.row.now (c.loop-n.n - 1) in
    let here : c.from.result ≡ flag s.logged = search rules in
    let room = word_room c.args.row.now c.if-row-ne-NUMBERS.false c.loop-n-test.true (omega arith) c.loop-n.invariant.word_is in
    record { fits = omega (arith, room, here, flag_small s.logged) }

pub loop-n-preserved : goal.loop-n-preserved
unfolding station_in flag
loop-n-preserved c =
    let xs = c.args.row.now in
    let here : c.from.result ≡ flag (station_in xs (c.loop-n.n - 1)).logged = search rules in
    let good : good_station (c.loop-n.n - 1) (station_in xs (c.loop-n.n - 1)) ≡ true = sym c.station_good.ensures ∙ c.if-not-station_good.false in record {
      each = λ k g l. by_eq k (c.loop-n.n - 1) (λ (e : k ≡ c.loop-n.n - 1). rw e good) (λ ne. c.loop-n.invariant.each k (omega (arith, g, ne)) l);
      word_is = word_on xs c.if-row-ne-NUMBERS.false c.loop-n-test.true (omega arith) c.loop-n.invariant.word_is c.from.result here;
    }

pub returns : goal.returns
returns c =
    let xs = c.args.row.now in
    let ended : c.loop-n.n ≡ 0 = omega (arith, c.loop-n-test.false) in
    record {
      answer = ap Some (c.loop-n.invariant.word_is ∙ ap (λ (k : ℕ). word_of (drop k xs)) ended)
          ∙ roll_some xs (record { sized = c.if-row-ne-NUMBERS.false; each = λ k l. c.loop-n.invariant.each k (omega arith) l });
    }
