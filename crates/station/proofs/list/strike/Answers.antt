use mathlib.Core.Path.{sym, ap, ◌∙◌}
use native.Mathlib.Omega.{arith}
use Rattle.rows.proofs.IndexLaws.{found_if, missing_if}
use Rattle.station.specs.Asks.{struck}
use Rattle.station.specs.State.{place_count, listed_at, is_listed, place_of, struck_at}
use Rattle.station.proofs.list.strike.Goals as goal

pub returns-then-not-is_legal : goal.returns-then-not-is_legal
unfolding struck
returns-then-not-is_legal c = rw (sym c.is_legal.ensures.answer ∙ c.if-not-is_legal.true)

pub returns-in-Some : goal.returns-in-Some
unfolding struck is_listed place_of
returns-in-Some c = let f = c.in-Some.ensures in
    rw (sym c.is_legal.ensures.answer ∙ c.if-not-is_legal.false, found_if (listed_at c.args.list.now c.args.s) (place_count c.args.list.now) (omega (arith, f.0, f.1))) (c.strike_at.ensures ∙ ap (struck_at c.args.list.now) f.0)

pub returns-in_default : goal.returns-in_default
unfolding struck is_listed place_of
returns-in_default c = rw (sym c.is_legal.ensures.answer ∙ c.if-not-is_legal.false, missing_if (listed_at c.args.list.now c.args.s) (place_count c.args.list.now) (omega (arith, c.in_default.ensures)))
