use Rattle.frames.proofs.WriteLaws.{Sized, named_put}
use borrow.Author.Rules.{rules}
use Rattle.frames.proofs.compose.put_named.Goals as goal

pub returns : goal.returns
returns c = let sized : Sized c.args.q = search rules in
    let put = named_put c.args.q sized c.args.buffer.now c.requires in cc
