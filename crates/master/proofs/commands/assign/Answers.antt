use Rattle.master.specs.Frames.{row_answer, assignable, assign_answer}
use Rattle.master.specs.Answers.{told}
use Rattle.site.specs.Found.{index_of_name}
use Rattle.site.specs.Layout.{partitions, partition_row, partition_password}
use Rattle.rows.specs.Words.{same, zeros}
use borrow.Author.Tests.{lt-ltb, le-ltb}
use mathlib.Core.Bool.{true, false, ◌||◌}
use mathlib.Core.Path.{◌≡◌, sym, ap, ◌∙◌}
use native.Mathlib.Omega.{arith}
use Prim.Native.Nat.{ℕ, ◌<◌, ◌≤◌}
use Rattle.master.proofs.commands.assign.Goals as goal

pub returns-in_default : goal.returns-in_default
unfolding assign_answer assignable
returns-in_default c = let a = c.args in
    let none : partitions a.site.now.file.now ≤ index_of_name a.site.now.file.now a.q.name = omega (arith, c.in_default.ensures) in
    rw (le-ltb _ _ none) c.denied.ensures

pub password_fits-requires : goal.password_fits-requires
password_fits-requires c = c.in-Some.ensures.1

pub returns-then-not-password_fits : goal.returns-then-not-password_fits
unfolding assign_answer assignable
returns-then-not-password_fits c = let a = c.args in
    let at = c.in-Some.ensures in
    let some : index_of_name a.site.now.file.now a.q.name < partitions a.site.now.file.now = omega (arith, at.0, at.1) in
    let bad : (zeros a.q.password || same (partition_password a.site.now.file.now (index_of_name a.site.now.file.now a.q.name)) a.q.password) ≡ false = sym (ap (λ (k : ℕ). zeros a.q.password || same (partition_password a.site.now.file.now k) a.q.password) at.0) ∙ sym c.password_fits.ensures ∙ c.if-not-password_fits.true in
    rw (lt-ltb _ _ some, bad) c.denied-then-not-password_fits.ensures

pub partition_row-row-requires : goal.partition_row-row-requires
partition_row-row-requires c = c.in-Some.ensures.1

pub returns : goal.returns
unfolding told row_answer assign_answer assignable
returns c = let a = c.args in
    let at = c.in-Some.ensures in
    let some : index_of_name a.site.now.file.now a.q.name < partitions a.site.now.file.now = omega (arith, at.0, at.1) in
    let fits : (zeros a.q.password || same (partition_password a.site.now.file.now (index_of_name a.site.now.file.now a.q.name)) a.q.password) ≡ true = sym (ap (λ (k : ℕ). zeros a.q.password || same (partition_password a.site.now.file.now k) a.q.password) at.0) ∙ sym c.password_fits.ensures ∙ c.if-not-password_fits.false in
    rw (lt-ltb _ _ some, fits) (ap row_answer (c.partition_row-row.ensures.answer ∙ ap (partition_row a.site.now.file.now) at.0))
