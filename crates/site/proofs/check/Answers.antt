use Rattle.site.proofs.RuleLaws.{header_is}
use Rattle.site.proofs.FaultLaws.{header_faulty, user_faulty, partitions_checked}
use Rattle.site.specs.Faults.{first_user}
use Rattle.site.specs.Rules.{good_header}
use mathlib.Core.Bool.{true}
use mathlib.Core.Path.{◌≡◌, sym, ◌∙◌}
use native.Mathlib.Omega.{arith}
use Rattle.site.proofs.check.Goals as goal

pub returns-then-not-header_good : goal.returns-then-not-header_good
returns-then-not-header_good c = record { answer = header_faulty _ (sym c.header_good.ensures ∙ c.if-not-header_good.true) }

pub users-users-requires : goal.users-users-requires
users-users-requires c = (header_is _ (sym c.header_good.ensures ∙ c.if-not-header_good.false)).whole

pub overflow_cast-result : goal.overflow_cast-result
overflow_cast-result c =
    record { fits = omega (arith, c.if-i-users.true, c.users-users.ensures.3, (header_is _ (sym c.header_good.ensures ∙ c.if-not-header_good.false)).few_users) }

pub returns-then-i-users : goal.returns-then-i-users
unfolding first_user
returns-then-i-users c =
    let u = c.users-users.ensures in
    let headed : good_header c.args.file.now ≡ true = sym c.header_good.ensures ∙ c.if-not-header_good.false in
    record { answer = user_faulty c.args.file.now headed _ (rw (u.0, u.1, u.2, u.3) at c.first_name_repeated-i.ensures) (omega (arith, c.if-i-users.true, u.3)) }

pub of-requires : goal.of-requires
of-requires c = (header_is _ (sym c.header_good.ensures ∙ c.if-not-header_good.false)).whole

pub check-requires : goal.check-requires
check-requires c =
    let headed = header_is _ (sym c.header_good.ensures ∙ c.if-not-header_good.false) in
    rw (c.of.result.counted, c.of.ensures) headed.few_partitions

pub returns : goal.returns
unfolding first_user
returns c =
    let u = c.users-users.ensures in
    let headed : good_header c.args.file.now ≡ true = sym c.header_good.ensures ∙ c.if-not-header_good.false in
    let first-is = rw (u.0, u.1, u.2, u.3) at c.first_name_repeated-i.ensures in
    record { answer = rw c.of.ensures at c.check.ensures ∙ partitions_checked c.args.file.now headed (omega (arith, c.if-i-users.false, u.3, first-is)) }
