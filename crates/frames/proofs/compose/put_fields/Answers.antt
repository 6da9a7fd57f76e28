use Prim.Native.Nat.{◌≤◌}
use lib.ListN.{length}
use mathlib.Core.Path.{◌≡◌, sym, ap, ◌∙◌}
use Rattle.rows.specs.Rows.{put as put_at}
use Rattle.frames.specs.declared.Command.{Command}
use Rattle.frames.proofs.WriteLaws.{Sized, login_put}
use Rattle.frames.specs.Table.{frame_table, length_in, frame_length}
use Rattle.frames.specs.Writing.{code_of, login_fields, fields_of}
use borrow.Author.Rules.{rules}
use Rattle.frames.proofs.compose.put_fields.Goals as goal

pub returns-in-Login : goal.returns-in-Login
unfolding frame_length length_in frame_table code_of fields_of
returns-in-Login c = let a = c.args in
    let sized : Sized a.q = search rules in
    let room : 20 ≤ length a.buffer.now = rw c.in-Login.is at c.requires in
    let put = login_put a.q sized a.buffer.now c.in-Login.product room in
    let written : c.put-in-Login.new.s ≡ put_at a.buffer.now 1 (login_fields a.q c.in-Login.product) = cc in
    written ∙ ap (λ (d : Command). put_at a.buffer.now 1 (fields_of d a.q)) (sym c.in-Login.is)
