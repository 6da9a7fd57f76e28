use Rattle.boot.specs.Tables.{user_rows, user_of}
use Rattle.boot.proofs.TableLaws.{user_match}
use Rattle.rows.proofs.IndexLaws.{search_starts, search_on, search_hit, search_ends}
use mathlib.Core.Path.{◌∙◌}
use Rattle.boot.proofs.lookups.find_user.Goals as goal

pub loop-i-init : goal.loop-i-init
loop-i-init c = search_starts _ _

pub is_user-requires : goal.is_user-requires
unfolding user_rows
is_user-requires c = c.loop-i-test.true

pub returns-then-is_user : goal.returns-then-is_user
unfolding user_of user_rows
returns-then-is_user c =
    (search_hit _ _ c.loop-i.invariant c.loop-i-test.true (user_match _ _ _ _ (λ i. (c.type_inv.users i).fits) c.fits-name c.told-name c.loop-i-test.true c.pattern_of-pattern.ensures c.is_user.ensures ∙ c.if-is_user.true), c.loop-i-test.true)

pub loop-i-preserved : goal.loop-i-preserved
unfolding user_rows
loop-i-preserved c =
    search_on _ _ c.loop-i.invariant c.loop-i-test.true (user_match _ _ _ _ (λ i. (c.type_inv.users i).fits) c.fits-name c.told-name c.loop-i-test.true c.pattern_of-pattern.ensures c.is_user.ensures ∙ c.if-is_user.false)

pub returns : goal.returns
unfolding user_of user_rows
returns c = search_ends _ _ c.loop-i.invariant c.loop-i-test.false
