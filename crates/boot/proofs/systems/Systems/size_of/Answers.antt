use Rattle.boot.specs.Systems.{fits, system_size}
use Rattle.boot.proofs.ChoiceLaws.{le_of_eq}
use Rattle.directory.proofs.FileLaws.{found_there}
use mathlib.Core.Path.{refl, sym, ◌∙◌}
use borrow.Author.Tests.{lt-ltb, le-ltb}
use Rattle.boot.proofs.systems.Systems.size_of.Goals as goal

pub returns-then-not-is_suited : goal.returns-then-not-is_suited
unfolding fits
returns-then-not-is_suited c = rw (sym c.is_suited.ensures ∙ c.if-not-is_suited.true)

pub returns-in-Some : goal.returns-in-Some
unfolding fits system_size
returns-in-Some c =
    let is = c.in-Some.ensures.0 in
    (rw (sym c.is_suited.ensures ∙ c.if-not-is_suited.false, sym (found_there _ _) ∙ lt-ltb _ _ (rw is at c.in-Some.ensures.1)) refl, rw is at c.length_of.ensures)

pub returns-in-None : goal.returns-in-None
unfolding fits
returns-in-None c =
    rw (sym c.is_suited.ensures ∙ c.if-not-is_suited.false, sym (found_there _ _) ∙ le-ltb _ _ (le_of_eq c.in-None.ensures)) refl
