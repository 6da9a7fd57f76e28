use borrow.Author.Rules.{rules}
use mathlib.Core.Path.{◌≡◌, sym, ◌∙◌}
use lib.ListN.{length}
use Rattle.station.proofs.StateLaws.{parts_other, parts_sized}
use Rattle.station.proofs.parts_good.Goals as goal

pub returns-then-list-ne-LIST : goal.returns-then-list-ne-LIST
returns-then-list-ne-LIST c =
    let long : length c.args.wait.now ≡ 15 = search rules in
    sym (parts_other c.args.list.now c.args.wait.now long c.if-list-ne-LIST.true)

pub returns-then-list_good : goal.returns-then-list_good
returns-then-list_good c =
    let long : length c.args.wait.now ≡ 15 = search rules in
    rw (parts_sized c.args.list.now c.args.wait.now long c.if-list-ne-LIST.false, sym c.list_good.ensures ∙ c.if-list_good.true) c.wait_good.ensures

pub returns-else-list_good : goal.returns-else-list_good
returns-else-list_good c =
    let long : length c.args.wait.now ≡ 15 = search rules in
    rw (parts_sized c.args.list.now c.args.wait.now long c.if-list-ne-LIST.false, sym c.list_good.ensures ∙ c.if-list_good.false) c.if-list_good.false
