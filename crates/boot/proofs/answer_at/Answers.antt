use Rattle.boot.specs.Lent.{tables_of}
use Rattle.boot.specs.Tables.{machine_of, machine_known, product_number, product_of, product_known}
use Rattle.boot.proofs.ChoiceLaws.{le_of_eq}
use Rattle.boot.proofs.AnswerLaws.{no_product, sent}
use Rattle.rows.proofs.IndexLaws.{found_if, missing_if}
use Rattle.boot.proofs.answer_at.Goals as goal

pub returns-in-Some : goal.returns-in-Some
unfolding machine_known machine_of product_number product_known product_of
returns-in-Some c =
    let m = c.requires.0 in
    sent (tables_of c.args.tables.now) _ _ _ _ (found_if _ _ (rw m at c.requires.1)) (found_if _ _ (rw (c.in-Some.ensures.0, m) at c.in-Some.ensures.1)) (rw (c.in-Some.ensures.0, m) at c.send_chosen.ensures)

pub returns-in-None : goal.returns-in-None
unfolding machine_known machine_of product_number product_known product_of
returns-in-None c =
    let m = c.requires.0 in
    no_product (tables_of c.args.tables.now) _ _ _ _ (found_if _ _ (rw m at c.requires.1)) (missing_if _ _ (le_of_eq (rw m at c.in-None.ensures)))
