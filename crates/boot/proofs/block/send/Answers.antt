use Rattle.boot.specs.Inner.{sent_flag, sent_block}
use Rattle.boot.proofs.BlockLaws.{whole_over}
use mathlib.Core.Path.{◌≡◌, sym, ◌∙◌}
use lib.ListN.{length}
use borrow.Author.Rules.{rules}
use Rattle.boot.proofs.block.send.Goals as goal

pub returns-then-not-all_there : goal.returns-then-not-all_there
unfolding sent_flag sent_block
returns-then-not-all_there c = let missing = sym c.all_there.ensures ∙ c.if-not-all_there.true in
    record { answer = rw missing; left = rw missing }

pub returns : goal.returns
unfolding sent_flag sent_block
returns c =
    let there = sym c.all_there.ensures ∙ c.if-not-all_there.false in
    let made : length c.make.result ≡ 194 = search rules in
    let was : length c.args.block.now ≡ 194 = search rules in
    record { answer = rw there; left = rw there (whole_over c.args.block.now (made ∙ sym was) c.make.ensures) }
