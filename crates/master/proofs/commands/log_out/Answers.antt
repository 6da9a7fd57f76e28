use Rattle.master.specs.Frames.{logout_effect}
use Rattle.who.proofs.WhoLaws.{good_is}
use native.Mathlib.Omega.{arith}
use borrow.Author.Rules.{rules}
use Rattle.master.proofs.commands.log_out.Goals as goal

pub log_out-requires : goal.log_out-requires
log_out-requires c = omega (arith, (good_is c.args.records.now c.requires.0).sized)

pub returns : goal.returns
unfolding logout_effect
returns c = search rules
