use Rattle.boot.proofs.BlockLaws.{block_made}
use Rattle.rows.proofs.RowLaws.{length_part}
use native.Mathlib.Omega.{arith}
use borrow.Author.Rules.{rules}
use mathlib.Core.Path.{◌≡◌, ap, ◌∙◌}
use lib.ListN.{length, length-set}
use Rattle.boot.proofs.block.make.Goals as goal

pub put-requires : goal.put-requires
put-requires c =
    let long : length c.args.configuration.now ≡ 64 = search rules in
    omega (arith, ap length c.part.ensures, length_part c.args.configuration.now 0 32 (omega (arith, long)))

pub put-requires-2 : goal.put-requires-2
put-requires-2 c =
    let long : length c.args.configuration.now ≡ 64 = search rules in
    rw length-set (omega (arith, ap length c.part-2.ensures, length_part c.args.configuration.now 32 32 (omega (arith, long)), c.put.auto.s))

pub returns : goal.returns
returns c =
    let long : length c.args.configuration.now ≡ 64 = search rules in
    c.put_entries.ensures
    ∙ rw (c.from.ensures, c.put-2.ensures, c.put.ensures, c.part-2.ensures, c.part.ensures) (block_made _ c.args.configuration.now c.args.choice.names.now c.args.iobyte _ long c.requires.list_len_bound c.requires.list_value)
