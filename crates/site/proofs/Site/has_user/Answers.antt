use Rattle.site.proofs.NameLaws.{no_user, the_user}
use Rattle.site.proofs.RuleLaws.{site_header}
use Rattle.site.specs.Layout.{users, user_password}
use Rattle.site.specs.Rules.{user_named}
use Rattle.rows.proofs.IndexLaws.{found_if, missing_if}
use Rattle.rows.specs.Words.{same}
use mathlib.Core.Path.{sym, ap, ◌∙◌}
use Prim.Native.Nat.{ℕ}
use native.Mathlib.Omega.{arith}
use Rattle.site.proofs.Site.has_user.Goals as goal

pub users-users-requires : goal.users-users-requires
users-users-requires c = (site_header c.args.self.now.file.now c.args.self.now.good).whole

pub returns-in-Some : goal.returns-in-Some
returns-in-Some c =
    let a = c.args in
    let u = c.users-users.ensures in
    let found = rw (u.0, u.1, u.2, u.3) at c.in-Some.ensures in
    record { answer = rw (u.0, u.1, u.2) at c.password_is.ensures ∙ ap (λ (i : ℕ). same (user_password a.self.now.file.now i) a.password) found.0 ∙ sym (the_user a.self.now.file.now a.name a.password a.self.now.good (found_if (user_named a.self.now.file.now a.name) (users a.self.now.file.now) (omega (arith, found)))) }

pub returns-in-None : goal.returns-in-None
returns-in-None c =
    let a = c.args in
    let u = c.users-users.ensures in
    let missed = rw (u.0, u.1, u.2, u.3) at c.in-None.ensures in
    record { answer = sym (no_user a.self.now.file.now a.name a.password (missing_if (user_named a.self.now.file.now a.name) (users a.self.now.file.now) (omega (arith, missed)))) }
