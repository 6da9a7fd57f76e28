use Rattle.std.proofs.Common.{arith, take_all, ◌∙◌}
use Rattle.rows.proofs.RowLaws.{length_part}
use Rattle.rows.proofs.array_in.Goals as goal

pub unwrap-requires : goal.unwrap-requires
unwrap-requires g c =
    let long = length_part c.args.s.now c.args.at g.row.N c.requires in
    c.first_chunk.ensures.variant.1 (rw c.part.ensures (omega (arith, long)))

pub returns : goal.returns
returns g c =
    let long = length_part c.args.s.now c.args.at g.row.N c.requires in
    let h = rw c.unwrap.ensures at c.first_chunk.ensures.cases in
    h.same ∙ (rw c.part.ensures (take_all _ _ (omega (arith, long))))
