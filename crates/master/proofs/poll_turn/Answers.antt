use Rattle.std.proofs.Common.{◌≡◌, ℕ, ◌+◌, ◌<◌, ◌≤◌, Bool, List, ◌++◌, length, set, drop, sym, ap, ◌∙◌, arith}
use borrow.Author.Tests.{lt-ltb}
use lib.ListN.{length-replicate}
use Rattle.std.specs.Prelude.{Result, Err}
use Rattle.refusals.specs.declared.Refusal.{Refusal}
use Rattle.refusals.specs.declared.Refusal.TheVariants.{BadTables}
use Rattle.rows.specs.Rows.{row}
use Rattle.rows.specs.Words.{build}
use Rattle.rows.proofs.BuildLaws.{build_none, build_store, build_done}
use Rattle.who.specs.declared.Station.{Station}
use Rattle.who.specs.Records.{station_of}
use Rattle.who.specs.Good.{numbers, stations_of}
use Rattle.who.specs.Row.{station_in}
use Rattle.who.proofs.RowLaws.{row_is}
use Rattle.master.specs.declared.Turned.{Turned}
use Rattle.master.specs.Polls.{Polls}
use Rattle.master.specs.RowPolls.{RowPolls}
use Rattle.master.proofs.PollLaws.{polls_refused, poll_bad_tables}
use Rattle.master.specs.Inner.{read_at, Lends, written_back}
use Rattle.master.proofs.RowTies.{row_missing, ties_below, row_ties}
use borrow.Author.Rules.{rules}
use Rattle.master.proofs.poll_turn.Goals as goal

-- a row l in which the stations before n are read, of the row zs before the loop
module _ (w : List ℕ) (zs : List Station) (full : length zs ≡ numbers) where
  abbrev read : ℕ → Station
  read k = station_of (row 18 w k)

  one_more : (l : List Station) (n : ℕ) (s : Station) → n < numbers → l ≡ build read n ++ drop n zs → s ≡ read n → set l n s ≡ build read (n + 1) ++ drop (n + 1) zs
  one_more l n s small e f = rw (e, f) (build_store read zs n (omega arith))

  all_read : (l : List Station) (n : ℕ) → n ≤ numbers → numbers ≤ n → l ≡ build read n ++ drop n zs → l ≡ stations_of w
  unfolding stations_of
  all_read l n most least e = e ∙ build_done read zs numbers n most least (omega arith)

-- a row polled is one lent: of what is left of it the record read is looked at
lent : (n : ℕ) (heard : Bool) (w t : List ℕ) (r : Result Turned Refusal) (t' : List ℕ) (ys : List Station) → RowPolls n heard (stations_of w) t r ys t' → Lends n heard w t r t' (station_in ys (read_at n))
lent n heard w t r t' ys a = record { answer = a.answer; locks = a.locks; records = ap (λ (l : List Station). station_in l (read_at n)) a.records }

pub returns-then-not-is_row : goal.returns-then-not-is_row
returns-then-not-is_row c = polls_refused _ _ _ _ BadTables (poll_bad_tables _ _ _ _ (row_missing _ _ (sym c.is_row.ensures.answer ∙ c.if-not-is_row.true)))

pub loop-n-init : goal.loop-n-init
loop-n-init c = build_none _ _

pub station_at-requires : goal.station_at-requires
station_at-requires c = omega (arith, (row_is _ (sym c.is_row.ensures.answer ∙ c.if-not-is_row.false)).sized)

pub loop-n-preserved : goal.loop-n-preserved
loop-n-preserved c = one_more _ _ (length-replicate 64 c.vacant-row.result) _ _ _ c.loop-n-test.true c.loop-n.invariant c.station_at.ensures

pub returns-in_err-turned : goal.returns-in_err-turned
unfolding written_back
returns-in_err-turned c =
    let a = c.args in
    let full = all_read a.records.now _ (length-replicate 64 c.vacant-row.result) _ _ c.loop-n.auto.n-end c.loop-n-test.false c.loop-n.invariant in
    let polled = rw full at c.in_err-turned.ensures in
    let refused : Polls a.number a.heard a.locks.now a.records.now (Err c.in_err-turned.field-0.0) c.poll_row.new.locks a.records.now = row_ties a.number a.heard a.records.now a.locks.now (sym c.is_row.ensures.answer ∙ c.if-not-is_row.false) _ _ _ (lent _ _ _ _ _ _ _ polled) in
    search rules

pub bounds-row-at : goal.bounds-row-at
bounds-row-at c =
    let a = c.args in
    let full = all_read a.records.now _ (length-replicate 64 c.vacant-row.result) _ _ c.loop-n.auto.n-end c.loop-n-test.false c.loop-n.invariant in
    ties_below a.number a.heard a.records.now a.locks.now (sym c.is_row.ensures.answer ∙ c.if-not-is_row.false) _ _ _ (rw full at c.in_ok-turned.ensures)

pub put_station-requires : goal.put_station-requires
put_station-requires c =
    let a = c.args in
    let stands = sym c.is_row.ensures.answer ∙ c.if-not-is_row.false in
    let full = all_read a.records.now _ (length-replicate 64 c.vacant-row.result) _ _ c.loop-n.auto.n-end c.loop-n-test.false c.loop-n.invariant in
    omega (arith, (row_is _ stands).sized, ties_below a.number a.heard a.records.now a.locks.now stands _ _ _ (rw full at c.in_ok-turned.ensures))

pub returns : goal.returns
unfolding station_in written_back read_at
returns c =
    let a = c.args in
    let full = all_read a.records.now _ (length-replicate 64 c.vacant-row.result) _ _ c.loop-n.auto.n-end c.loop-n-test.false c.loop-n.invariant in
    let stands = sym c.is_row.ensures.answer ∙ c.if-not-is_row.false in
    let polled = rw full at c.in_ok-turned.ensures in
    let below = lt-ltb a.number numbers (ties_below a.number a.heard a.records.now a.locks.now stands _ _ _ polled) in
    let tied = row_ties a.number a.heard a.records.now a.locks.now stands _ _ _ (lent _ _ _ _ _ _ _ polled) in
    rw c.put_station.ensures (rw below at tied)
