use mathlib.Core.Path.{refl, sym, ap, ◌∙◌}
use Rattle.frames.proofs.WriteLaws.{Sized, frame_long}
use Rattle.frames.specs.Table.{frame_length}
use borrow.Author.Rules.{rules}
use Rattle.frames.proofs.compose.length_of.Goals as goal

pub returns : goal.returns
returns c = let sized : Sized c.args.q = search rules in
    c.frame_length.ensures ∙ ap frame_length c.from.ensures ∙ sym (frame_long _ _ sized refl)
