use Prim.Native.Nat.{◌*◌}
use native.Mathlib.Omega.{arith}
use mathlib.Core.Path.{sym, ap, ◌∙◌}
use lib.ListN.{length}
use Rattle.rows.proofs.RowLaws.{length_part}
use Rattle.rows.proofs.IndexLaws.{pass_breaks}
use Rattle.station.specs.Good.{good_place, good_at}
use Rattle.station.proofs.rules.places_good.Goals as goal

pub place_good-requires : goal.place_good-requires
place_good-requires c = ap length c.part.ensures ∙ length_part c.args.list.now (14 * c.loop-i.i) 14 (omega arith)

pub returns-then-not-place_good : goal.returns-then-not-place_good
unfolding good_at
returns-then-not-place_good c = pass_breaks _ _ c.loop-i-test.true (ap good_place (sym c.part.ensures) ∙ sym c.place_good.ensures ∙ c.if-not-place_good.true)
