use Prim.Native.Nat.{◌≤◌}
use borrow.Author.Rules.{rules}
use lib.ListN.{length, drop, length-drop}
use lib.Seq.{take_all}
use mathlib.Core.Path.{◌≡◌, ap, ◌∙◌}
use native.Mathlib.Omega.{arith}
use Rattle.rows.specs.Words.{zeros}
use Rattle.frames.specs.Codes.{byte_of}
use Rattle.station.proofs.WaitLaws.{clear_code}
use Rattle.station.proofs.rules.wait_good.Goals as goal

pub returns-in-Ok-Clear : goal.returns-in-Ok-Clear
returns-in-Ok-Clear c = let v = c.args.wait.now in
    let whole : length v ≡ 15 = search rules in
    let rest : length (drop 1 v) ≤ 14 = omega (arith, whole, length-drop 1 v) in
    c.is_zero.ensures.answer ∙ ap zeros (take_all 14 (drop 1 v) rest) ∙ clear_code v whole (c.in-Ok-Clear.ensures ∙ ap byte_of c.in-Ok-Clear.field-0-is)
