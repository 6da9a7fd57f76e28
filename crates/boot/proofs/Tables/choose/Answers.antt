use Rattle.boot.specs.Lent.{tables_of}
use Rattle.boot.specs.Tables.{product_number, machine_options, wanted_os, wants_small}
use Rattle.boot.proofs.ChoiceLaws.{chosen_among}
use mathlib.Core.Path.{◌∙◌}
use Rattle.boot.proofs.Tables.choose.Goals as goal

pub returns : goal.returns
unfolding product_number machine_options wanted_os wants_small
returns c =
    let n = c.new-systems.ensures in
    (rw (n.0, n.1, n.2, n.3, c.part-options.ensures, c.os_menu.ensures) at c.choose.ensures.0 ∙ chosen_among (tables_of c.args.self.now) c.args.m c.args.p c.args.u, c.choose.ensures.1)
