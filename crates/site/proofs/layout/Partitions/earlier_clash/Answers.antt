use Rattle.site.specs.Faults.{fault_row, clashes, earlier_row}
use Rattle.rows.proofs.IndexLaws.{first_none, none_from}
use mathlib.Core.Path.{refl, sym}
use Rattle.site.proofs.layout.Partitions.earlier_clash.Goals as goal

pub find_overlap-requires : goal.find_overlap-requires
find_overlap-requires c = record { i_in_bounds = c.requires.i_in_bounds; by_index = c.requires.j_value c.in-Overlap.is }

pub returns-in-Range : goal.returns-in-Range
unfolding earlier_row fault_row clashes
returns-in-Range c = rw c.in-Range.is (sym (first_none _ _ (none_from _ _ (λ j l. refl))))

pub returns-in-Name : goal.returns-in-Name
unfolding earlier_row fault_row clashes
returns-in-Name c = rw c.in-Name.is (rw (c.rows.ensures.0, c.rows.ensures.1, c.rows.ensures.2, c.args.self.now.begins) at c.earlier_name.ensures)

pub returns-in-Number : goal.returns-in-Number
unfolding earlier_row fault_row clashes
returns-in-Number c = rw c.in-Number.is c.earlier_number.ensures

pub returns-in-Overlap : goal.returns-in-Overlap
unfolding earlier_row fault_row clashes
returns-in-Overlap c = rw c.in-Overlap.is c.find_overlap.ensures
