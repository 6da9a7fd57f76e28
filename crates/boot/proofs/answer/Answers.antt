use Rattle.boot.specs.Lent.{tables_of}
use Rattle.boot.specs.Tables.{machine_of, machine_known}
use Rattle.boot.proofs.ChoiceLaws.{le_of_eq}
use Rattle.boot.proofs.AnswerLaws.{no_machine}
use Rattle.rows.proofs.IndexLaws.{missing_if}
use Rattle.boot.proofs.answer.Goals as goal

pub returns-in-None : goal.returns-in-None
unfolding machine_known machine_of
returns-in-None c = no_machine (tables_of c.args.tables.now) _ _ _ _ (missing_if _ _ (le_of_eq c.in-None.ensures))
