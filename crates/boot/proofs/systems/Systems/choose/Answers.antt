use Rattle.boot.proofs.ChoiceLaws.{menu_alone, small_wanted, exact_found, exact_missed}
use mathlib.Core.Path.{sym, ◌∙◌}
use native.Mathlib.Omega.{arith}
use Rattle.boot.proofs.systems.Systems.choose.Goals as goal

pub returns-then-small : goal.returns-then-small
returns-then-small c = rw c.if-small.true (c.choose_smallest.ensures.0 ∙ small_wanted _ _ _ _ _ _, c.choose_smallest.ensures.1)

pub returns-in-Some : goal.returns-in-Some
returns-in-Some c = rw c.if-small.false (rw c.load_list.ensures.0 (exact_found _ _ _ _ _ _ c.in-Some.ensures), c.load_list.ensures.1)

pub returns-in-None : goal.returns-in-None
returns-in-None c =
    rw c.if-small.false (c.choose_smallest-in-None.ensures.0 ∙ exact_missed _ _ _ _ _ _ c.in-None.ensures, c.choose_smallest-in-None.ensures.1)

pub returns-then-count-eq0 : goal.returns-then-count-eq0
returns-then-count-eq0 c = (menu_alone _ _ _ _ (sym c.count.ensures ∙ c.if-count-eq0.true) _ _ _, omega arith)
