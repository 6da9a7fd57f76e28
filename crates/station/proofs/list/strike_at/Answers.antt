use Rattle.station.proofs.ListLaws.{struck_laid}
use Rattle.rows.specs.Rows.{put}
use lib.ListN.{length, replicate}
use mathlib.Core.List.{List}
use mathlib.Core.Path.{ap, ◌∙◌}
use native.Mathlib.Omega.{arith}
use Prim.Native.Nat.{ℕ, ◌-◌}
use Rattle.station.proofs.list.strike_at.Goals as goal

pub put-requires : goal.put-requires
put-requires c = omega (arith, c.slide.auto.s, c.requires)

pub returns : goal.returns
returns c =
    let l = c.args.list.now in
    c.put.ensures ∙ ap (λ (m : List ℕ). put m (length l - 14) (replicate 14 0)) c.slide.ensures ∙ struck_laid l c.args.i c.requires
