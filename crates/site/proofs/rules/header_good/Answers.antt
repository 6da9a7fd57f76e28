use lib.Dec.{eqb}
use lib.ListN.{length}
use Prim.Native.Nat.{ℕ}
use mathlib.Core.Path.{sym, ap, ◌∙◌}
use Rattle.site.proofs.RuleLaws.{header_is}
use Rattle.site.specs.Rules.{good_header}
use Rattle.site.specs.Layout.{user_offset, partition_offset}
use Rattle.rows.proofs.BoolLaws.{refuted}
use borrow.Author.Tests.{le-leb, eq-eqb}
use native.Mathlib.Omega.{arith}
use Rattle.site.proofs.rules.header_good.Goals as goal

pub returns-then-file-lt8 : goal.returns-then-file-lt8
returns-then-file-lt8 c = refuted _ (λ h. omega (arith, c.if-file-lt8.true, (header_is _ h).whole))

pub returns-then-users-gt128 : goal.returns-then-users-gt128
returns-then-users-gt128 c = refuted _ (λ h. omega (arith, c.if-users-gt128.true, c.user_count-users.ensures.0, (header_is _ h).few_users))

pub returns-then-partitions-gt64 : goal.returns-then-partitions-gt64
returns-then-partitions-gt64 c = refuted _ (λ h. omega (arith, c.if-partitions-gt64.true, c.partition_count-partitions.ensures.0, (header_is _ h).few_partitions))

pub returns-then-low_first_at-ne8 : goal.returns-then-low_first_at-ne8
unfolding user_offset
returns-then-low_first_at-ne8 c = refuted _ (λ h. c.if-low_first_at-ne8.true (c.low_first_at.ensures ∙ (header_is _ h).users_at))

pub returns-then-from : goal.returns-then-from
unfolding partition_offset
returns-then-from c = refuted _ (λ h. c.if-from.true (c.from.ensures ∙ c.low_first_at-2.ensures ∙ (header_is _ h).partitions_at ∙ sym c.partitions_from-from.ensures))

pub returns : goal.returns
unfolding good_header user_offset partition_offset
returns c = let f = c.args.file.now in
    let u = c.user_count-users.ensures.0 in
    let p = c.partition_count-partitions.ensures.0 in
    rw (le-leb _ 128 (rw u at c.if-users-gt128.false), le-leb _ 64 (rw p at c.if-partitions-gt64.false), eq-eqb _ 8 (sym c.low_first_at.ensures ∙ c.if-low_first_at-ne8.false), eq-eqb _ _ (sym (c.from.ensures ∙ c.low_first_at-2.ensures) ∙ c.if-from.false ∙ c.partitions_from-from.ensures))
    (ap (λ (n : ℕ). eqb (length f) n) (omega (arith, p, c.partitions_from-from.ensures)))
