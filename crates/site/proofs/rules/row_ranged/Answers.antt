use Rattle.site.specs.Rules.{sectors, ranged}
use Rattle.rows.proofs.BoolLaws.{iff, refuted}
use borrow.Author.Tests.{leb-true, le-leb}
use Prim.Native.Nat.{◌+◌, ◌-◌}
use Rattle.site.proofs.RuleLaws.{ranged_is}
use native.Mathlib.Omega.{arith}
use Rattle.site.proofs.rules.row_ranged.Goals as goal

pub returns-then-r-gt3 : goal.returns-then-r-gt3
returns-then-r-gt3 c = refuted _ (λ h. omega (arith, c.if-r-gt3.true, (ranged_is _ h).volume))

pub returns-then-r-gt63 : goal.returns-then-r-gt63
returns-then-r-gt63 c = refuted _ (λ h. omega (arith, c.if-r-gt63.true, (ranged_is _ h).partition))

pub returns-then-r-lt1 : goal.returns-then-r-lt1
returns-then-r-lt1 c = refuted _ (λ h. omega (arith, c.if-r-lt1.true, (ranged_is _ h).least))

pub returns-then-r-gt6 : goal.returns-then-r-gt6
returns-then-r-gt6 c = refuted _ (λ h. omega (arith, c.if-r-gt6.true, (ranged_is _ h).most))

pub returns : goal.returns
unfolding ranged
returns c = let r = c.args.r in
    let n = c.sectors.ensures.0 in
    rw (le-leb r.volume.0 3 c.if-r-gt3.false, le-leb r.partition.0 63 c.if-r-gt63.false, le-leb 1 r.size c.if-r-lt1.false, le-leb r.size 6 c.if-r-gt6.false)
    (iff _ _
    (λ h. le-leb (r.first + sectors r.size) 1048576 (omega (arith, n, c.sectors.ensures.1, leb-true r.first (1048576 - c.sectors.result) h)))
    (λ h. le-leb r.first (1048576 - c.sectors.result) (omega (arith, n, leb-true (r.first + sectors r.size) 1048576 h))))
