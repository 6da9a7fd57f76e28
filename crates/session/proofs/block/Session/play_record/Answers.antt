use Rattle.std.proofs.lemmas.List.{take_rest}
use Rattle.session.specs.Records.{number}
use Rattle.session.proofs.block.Session.play_record.Goals as goal

pub returns-clause-adds : goal.returns-clause-adds
unfolding number
returns-clause-adds c =
    let done = rw (c.from.ensures, take_rest c.args.record.now 2) at c.serve-answer.ensures in
    record { line = rw done.answer at c.write_line-end.ensures; locks = done.locks; records = done.records }
