use lib.ListN.{length}
use mathlib.Core.List.{[], ◌∷◌}
use mathlib.Core.Path.{◌≡◌, refl, ◌∙◌}
use native.Mathlib.Omega.{arith}
use borrow.Author.Rules.{rules}
use Rattle.rows.proofs.RowLaws.{set_put, put_next, put_last}
use Rattle.terms.specs.Strings.{string_bytes}
use Rattle.station.specs.Asks.{awaited}
use Rattle.station.proofs.wait.begin.Goals as goal

pub returns : goal.returns
unfolding awaited
returns c =
    let a = c.args in
    let w = a.wait.now in
    let own : length a.s.bytes ≡ 13 = search rules in
    let long : length (string_bytes a.s) ≡ 14 = rw own in
    let whole : length w ≡ 15 = search rules in
    let b = c.from.result in
    c.put_string.ensures.0 ∙ rw (set_put w 0 b (omega (arith, whole)), put_next w (b ∷ []) (string_bytes a.s) 0 1 refl (omega (arith, whole, long)), c.from.ensures) (put_last w (_ ∷ string_bytes a.s) 0 (omega (arith, whole, long)))
