use Rattle.site.proofs.NameLaws.{named_match}
use Rattle.rows.proofs.IndexLaws.{search_starts, search_on, search_hit, search_ends}
use Rattle.rows.proofs.RowLaws.{row_end}
use Prim.Native.Nat.{◌<◌}
use native.Mathlib.Omega.{arith}
use mathlib.Core.Path.{◌∙◌}
use Rattle.site.proofs.layout.Rows.find_name.Goals as goal

pub loop-i-init : goal.loop-i-init
loop-i-init c = search_starts _ _

pub returns-then-matches : goal.returns-then-matches
returns-then-matches c =
    let below : c.loop-i.i < c.args.self.now.count = omega arith in
    let inside = row_end c.args.self.now.width below in
    (search_hit _ _ c.loop-i.invariant c.loop-i-test.true (named_match _ _ _ _ _ c.args.self.now.bytes c.fits-name c.told-name (omega (arith, inside)) c.pattern_of-pattern.ensures c.name.ensures c.matches.ensures ∙ c.if-matches.true), c.loop-i-test.true)

pub loop-i-preserved : goal.loop-i-preserved
loop-i-preserved c =
    let below : c.loop-i.i < c.args.self.now.count = omega arith in
    let inside = row_end c.args.self.now.width below in
    search_on _ _ c.loop-i.invariant c.loop-i-test.true (named_match _ _ _ _ _ c.args.self.now.bytes c.fits-name c.told-name (omega (arith, inside)) c.pattern_of-pattern.ensures c.name.ensures c.matches.ensures ∙ c.if-matches.false)

pub returns : goal.returns
returns c = search_ends _ _ c.loop-i.invariant c.loop-i-test.false
