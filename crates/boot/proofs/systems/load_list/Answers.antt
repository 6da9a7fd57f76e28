use Rattle.boot.specs.Systems.{names_before, load_list}
use Rattle.directory.specs.Directory.{null_name}
use Rattle.rows.specs.Rows.{part}
use Rattle.boot.proofs.SystemLaws.{names_most, list_most}
use Rattle.boot.proofs.TableLaws.{finds_or}
use native.Mathlib.Omega.{arith}
use mathlib.Core.Path.{◌≡◌, ◌∙◌}
use Rattle.boot.proofs.systems.load_list.Goals as goal

pub overflow_mul-n : goal.overflow_mul-n
unfolding names_before null_name
overflow_mul-n c = omega (arith, c.unwrap_or-n.ensures ∙ finds_or _ _ c.find.result c.find.ensures, names_most c.field-names.result.now)

pub part-requires : goal.part-requires
unfolding names_before null_name
part-requires c =
    omega (arith, c.unwrap_or-n.ensures ∙ finds_or _ _ c.find.result c.find.ensures, names_most c.field-names.result.now)

pub returns : goal.returns
unfolding load_list names_before null_name part
returns c =
    let n = c.unwrap_or-n.ensures ∙ finds_or _ _ c.find.result c.find.ensures in
    let is : c.part.result.now ≡ load_list c.args.table.now c.args.i = c.part.ensures ∙ rw (n, c.field-names.ensures) in
    (is, rw is (unfold part in list_most c.args.table.now c.args.i))
