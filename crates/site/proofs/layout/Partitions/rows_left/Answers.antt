use Rattle.site.proofs.RuleLaws.{sound_ranged}
use Rattle.site.specs.Rules.{sound, name_alone, number_alone, apart}
use Rattle.site.specs.Shortcuts.{left_by_range, left_by_name, left_by_number, left_by_overlap}
use Rattle.rows.proofs.IndexLaws.{first_most, first_least, at_holds}
use Rattle.rows.specs.Words.{first, fails}
use mathlib.Core.Path.{refl, ap, ◌∙◌}
use native.Mathlib.Omega.{arith}
use Rattle.site.proofs.layout.Partitions.rows_left.Goals as goal

pub first_name_repeated-named-requires : goal.first_name_repeated-named-requires
first_name_repeated-named-requires c =
    let s = c.args.self.now in
    omega (arith, c.rows.ensures.3, c.first_unsound-ranged.ensures, first_most (fails (sound s.file.now)) s.count)

pub first_number_repeated-numbered-requires : goal.first_number_repeated-numbered-requires
first_number_repeated-numbered-requires c =
    let s = c.args.self.now in
    let r = c.rows.result in
    omega (arith, c.first_unsound-ranged.ensures, first_most (fails (sound s.file.now)) s.count, c.first_name_repeated-named.ensures, first_most (fails (name_alone r.file.now r.from r.width)) c.first_unsound-ranged.result)

pub first_overlap-apart-requires : goal.first_overlap-apart-requires
first_overlap-apart-requires c =
    let s = c.args.self.now in
    let r = c.rows.result in
    let few = first_most (fails (sound s.file.now)) s.count in
    let fewer = first_most (fails (name_alone r.file.now r.from r.width)) c.first_unsound-ranged.result in
    let fewest = first_most (fails (number_alone s.file.now)) c.first_name_repeated-named.result in
    record {
      n_in_bounds = (omega (arith, c.first_unsound-ranged.ensures, few, c.first_name_repeated-named.ensures, fewer, c.first_number_repeated-numbered.ensures, fewest), omega (arith, c.first_unsound-ranged.ensures, few, c.first_name_repeated-named.ensures, fewer, c.first_number_repeated-numbered.ensures, fewest));
      by_index = λ i l. sound_ranged s.file.now i (at_holds (sound s.file.now) i (first_least (fails (sound s.file.now)) s.count i (omega (arith, c.first_unsound-ranged.ensures, c.first_name_repeated-named.ensures, fewer, c.first_number_repeated-numbered.ensures, fewest))));
    }

pub returns : goal.returns
unfolding left_by_range left_by_name left_by_number left_by_overlap
returns c =
    let f = c.args.self.now.file.now in
    let ranged = c.first_unsound-ranged.ensures ∙ ap (first (fails (sound f))) c.args.self.now.counted in
    let named = rw (c.rows.ensures.0, c.rows.ensures.1, c.rows.ensures.2, c.args.self.now.begins) at c.first_name_repeated-named.ensures ∙ ap (first (fails (name_alone f _ 24))) ranged in
    let numbered = c.first_number_repeated-numbered.ensures ∙ ap (first (fails (number_alone f))) named in
    (refl, ranged, named, numbered, c.first_overlap-apart.ensures ∙ ap (first (fails (apart f))) numbered)
