use Rattle.boot.specs.Lent.{tables_of}
use Rattle.boot.specs.Tables.{iobyte, no_configuration}
use Rattle.boot.proofs.AnswerLaws.{to_nobody, to_user}
use native.Mathlib.Omega.{arith}
use Rattle.boot.proofs.send_chosen.Goals as goal

pub send-requires : goal.send-requires
send-requires c = c.choose-choice.ensures.1

pub returns-in-Some : goal.returns-in-Some
unfolding iobyte
returns-in-Some c =
    to_user (tables_of c.args.tables.now) c.args.m c.args.p _ _ _ _ c.in-Some.ensures c.configuration-own.ensures c.choose-choice.ensures.0 c.send.ensures

pub send-requires-in-None : goal.send-requires-in-None
send-requires-in-None c = omega arith

pub returns-in-None : goal.returns-in-None
unfolding iobyte no_configuration
returns-in-None c =
    to_nobody (tables_of c.args.tables.now) c.args.m c.args.p _ _ _ _ c.in-None.ensures c.login_please.ensures c.send-in-None.ensures
