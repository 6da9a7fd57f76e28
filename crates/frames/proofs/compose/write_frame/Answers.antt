use native.Mathlib.Omega.{arith}
use mathlib.Core.Path.{refl, ◌∙◌}
use Prim.Native.Nat.{◌≤◌}
use lib.ListN.{length}
use Rattle.frames.specs.declared.Request.{Request}
use Rattle.frames.specs.Writing.{frame_of}
use Rattle.frames.proofs.WriteLaws.{Sized, frame_long, frame_put}
use borrow.Author.Rules.{rules}
use Rattle.frames.proofs.compose.write_frame.Goals as goal

one_more : (q : Request) → 1 ≤ length (frame_of q)
unfolding frame_of
one_more q = omega arith

pub put-requires : goal.put-requires
put-requires c = omega (arith, one_more c.args.q)

pub put_fields-requires : goal.put_fields-requires
put_fields-requires c = let sized : Sized c.args.q = search rules in omega (arith, frame_long c.args.q c.args.q.command sized refl, c.put.auto.s)

pub returns : goal.returns
returns c = let sized : Sized c.args.q = search rules in
    let put = frame_put c.args.q sized c.args.buffer.now _ (c.from-2.ensures ∙ c.from.ensures) c.requires in cc
