use Rattle.std.proofs.Common.{arith}
use Rattle.std.proofs.lemmas.List.{length-take-le}
use Rattle.session.proofs.TurnLaws.{read_ends, takes}
use Rattle.session.proofs.take_turn.Goals as goal

pub returns-clause-takes : goal.returns-clause-takes
returns-clause-takes g c =
    let read = c.read_more-read in
    let ends = read_ends _ _ read.result c.in_ok-end.ensures read.ensures.ends in
    let long = length-take-le c.in_ok-end.end read.new.input (omega (arith, ends, read.auto)) in
    takes _ _ _ _ _ _ _ _ _ _ _ _ _ _ ends.0 (omega (arith, ends, read.auto)) (omega (arith, c.play-played.ensures.plays.inside, long)) read.ensures.keeps
    c.play-played.ensures.plays c.slide.ensures
