use Rattle.std.proofs.Common.{arith, refl, ◌∙◌, ◌+◌}
use Rattle.session.proofs.RecordLaws.{found, none_found}
use Rattle.session.proofs.PlayLaws.{playing_begins, playing_on, playing_ends}
use Rattle.session.proofs.block.Session.play.Goals as goal

pub loop-record-init : goal.loop-record-init
loop-record-init c = (playing_begins _ _ _ _ _ _, refl)

pub play_record-used-requires : goal.play_record-used-requires
play_record-used-requires c =
    let p = c.loop-record.invariant.0 in
    let y = (found _ _ _ p.inside c.in-Some.ensures).whole in
    (y.more, omega (arith, y.more, y.inside, p.room, c.requires.input_in_bounds), omega (arith, y.more, y.inside, p.count, c.requires.input_bound))

pub loop-record-smaller : goal.loop-record-smaller
loop-record-smaller c =
    let y = (found _ _ _ c.loop-record.invariant.0.inside c.in-Some.ensures).whole in
    omega (arith, y.more, y.inside)

pub loop-record-preserved : goal.loop-record-preserved
loop-record-preserved c =
    let y = found _ _ _ c.loop-record.invariant.0.inside c.in-Some.ensures in
    let e = c.play_record-used.ensures in (
      rw e.next.0 (playing_on _ _ _ _ _ _ _ _ _ _ _ _ c.loop-record.invariant.0 _ _ _ _ _ y.whole c.requires.input_in_bounds (rw (y.number, y.frame, c.loop-record.invariant.1) at e.adds)),
      e.next.1 ∙ c.loop-record.invariant.1,
    )

pub returns-clause-plays : goal.returns-clause-plays
returns-clause-plays c =
    playing_ends _ _ _ _ _ _ _ _ _ _ _ _ c.loop-record.invariant.0 (none_found c.args.input.now c.loop-record.at c.in_default.ensures)
    c.requires.input_in_bounds (c.type_inv.input (c.loop-record.at + 1)).fits
