use Rattle.site.specs.Faults.{fault_row, clashes, earlier_row}
use Rattle.site.specs.Layout.{partitions}
use Rattle.site.proofs.FaultLaws.{checked_case, known}
use Rattle.rows.specs.Words.{first}
use Rattle.std.specs.Prelude.{Err}
use mathlib.Core.Path.{refl, ap, ◌∙◌}
use native.Mathlib.Omega.{arith}
use Rattle.site.proofs.earlier_row.Goals as goal

pub users-requires : goal.users-requires
users-requires c = (known _ (checked_case _ (c.requires ∙ ap Err c.in-InUser.is))).0.whole

pub earlier_name-requires : goal.earlier_name-requires
earlier_name-requires c =
    omega (arith, (known _ (checked_case _ (c.requires ∙ ap Err c.in-InUser.is))).1, c.users.ensures.3, c.from.ensures)

pub of-requires : goal.of-requires
of-requires c = (known _ (checked_case _ (c.requires ∙ ap Err c.in-InPartition.is))).0.whole

pub earlier_clash-requires : goal.earlier_clash-requires
earlier_clash-requires c =
    let at = known _ (checked_case _ (c.requires ∙ ap Err c.in-InPartition.is)) in
    record {
      i_in_bounds = omega (arith, at.1, c.of.result.counted, ap partitions c.of.ensures, c.from-in-InPartition.ensures);
      j_value = rw (c.of.ensures, c.from-in-InPartition.ensures) at.2;
    }

pub returns-in-InHeader : goal.returns-in-InHeader
unfolding earlier_row fault_row first
returns-in-InHeader c = rw c.in-InHeader.is refl

pub returns-in-InUser : goal.returns-in-InUser
unfolding earlier_row fault_row clashes
returns-in-InUser c =
    let u = c.users.ensures in
    rw c.in-InUser.is (rw (u.0, u.1, u.2, c.from.ensures) at c.earlier_name.ensures)

pub returns-in-InPartition : goal.returns-in-InPartition
unfolding fault_row
returns-in-InPartition c =
    rw c.in-InPartition.is (rw (c.of.ensures, c.from-in-InPartition.ensures) at c.earlier_clash.ensures)
