use Rattle.locks.proofs.LockRowLaws.{row_laid}
use Rattle.locks.specs.Row.{row_of}
use Rattle.rows.proofs.RowLaws.{over_next}
use Rattle.terms.specs.declared.LockString.{LockString}
use Rattle.terms.specs.Strings.{string_bytes}
use lib.ListN.{length, replicate}
use mathlib.Core.List.{[], ◌∷◌, ◌++◌}
use mathlib.Core.Path.{◌≡◌, refl, ap, ◌∙◌}
use native.Mathlib.Omega.{arith}
use borrow.Author.Rules.{rules}
use Rattle.locks.proofs.row.row_of.Goals as goal

pub returns : goal.returns
unfolding row_of
returns c =
    let a = c.args in
    let x = c.normal.result in
    let full : length c.normal.result.bytes ≡ 13 = search rules in
    c.put_string.ensures.0
    ∙ over_next (replicate 16 0) (a.who ∷ []) (string_bytes x) 1 refl (omega arith)
    ∙ row_laid a.who x full
    ∙ ap (λ (y : LockString). a.who ∷ (string_bytes y ++ (0 ∷ []))) c.normal.ensures.answer
