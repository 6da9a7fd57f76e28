use Rattle.master.specs.Frames.{logouts_below, old_logouts}
use Rattle.master.proofs.TableLaws.{records_good, sized, table}
use Rattle.master.proofs.LogoutLaws.{zero_out}
use Rattle.who.specs.Good.{numbers}
use Rattle.rows.specs.Words.{zeros}
use mathlib.Core.Bool.{true, false}
use mathlib.Core.Path.{◌≡◌, refl, sym, ◌∙◌}
use native.Mathlib.Omega.{arith}
use Rattle.master.proofs.LogoutLaws.{walked_good, walked_out, walked_on}
use Rattle.master.proofs.commands.log_old_out.Goals as goal
use Rattle.master.proofs.commands.log_old_out.Goals.{then-has_serial, else-has_serial}

pub returns-then-is_zero : goal.returns-then-is_zero
returns-then-is_zero c =
    let a = c.args in
    let z : zeros a.serial ≡ true = sym c.is_zero.ensures.answer ∙ c.if-is_zero.true in
    rw (zero_out a.serial a.locks.now a.records.now z) (record { locks = refl; records = refl })

pub loop-n-init : goal.loop-n-init
unfolding logouts_below
loop-n-init c = record { inside = omega arith; left = record { locks = refl; records = refl } }

pub overflow_cast-n : goal.overflow_cast-n
overflow_cast-n c = record { fits = omega (arith, c.loop-n-test.true) }

pub log_out-requires : goal.log_out-requires
log_out-requires c =
    (records_good _ _ (walked_good c.requires c.loop-n.invariant), c.loop-n-test.true)

pub loop-n-preserved : goal.loop-n-preserved
loop-n-preserved c =
    let some : zeros c.args.serial ≡ false = sym c.is_zero.ensures.answer ∙ c.if-is_zero.false in
    let good = c.requires in
    elim c.if-has_serial.branch [
      | then-has_serial b ↦ rw (b.locks-is, b.records-is) (walked_out good c.loop-n.invariant some c.loop-n-test.true (sym c.has_serial.ensures.answer ∙ b.if-has_serial.true) b.log_out.ensures)
      | else-has_serial b ↦ rw (b.locks-is, b.records-is) (walked_on good c.loop-n.invariant some c.loop-n-test.true (sym c.has_serial.ensures.answer ∙ b.if-has_serial.false))
    ]

pub shape_of-locks : goal.shape_of-locks
shape_of-locks c = let good = c.requires in (table _ _ (walked_good good c.loop-n.invariant)).sized ∙ sym (table _ _ good).sized

pub shape_of-records : goal.shape_of-records
shape_of-records c = let good = c.requires in sized _ _ (walked_good good c.loop-n.invariant) ∙ sym (sized _ _ good)

pub returns : goal.returns
unfolding old_logouts
returns c = let w = c.loop-n.invariant in let last : c.loop-n.n ≡ numbers = omega (arith, w.inside, c.loop-n-test.false) in rw last at w.left
