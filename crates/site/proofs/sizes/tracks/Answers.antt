use Prim.Native.Nat.{ℕ, suc, ◌-◌, ◌*◌, ◌^◌, ◌≤◌}
use native.Mathlib.Nat.{pow-suc}
use lib.Pow.{pow_mono}
use mathlib.Core.Path.{◌≡◌, ap, ◌∙◌}
use native.Mathlib.Omega.{arith}
use Rattle.site.specs.Rules.{tracks}
use Rattle.site.proofs.sizes.tracks.Goals as goal

doubled : (n : ℕ) → 1 ≤ n → 2 ^ n ≡ 2 * 2 ^ (n - 1)
doubled n l =
    let next : n ≡ suc (n - 1) = omega arith in
    let twice : 2 ^ suc (n - 1) ≡ 2 * 2 ^ (n - 1) = omega (arith, pow-suc 2 (n - 1)) in
    ap (λ (k : ℕ). 2 ^ k) next ∙ twice

pub returns : goal.returns
unfolding tracks
returns c =
    let n = c.args.size in
    let few : 2 ^ n ≤ 64 = pow_mono c.requires.1 in
    (omega (arith, few, doubled n c.requires.0), omega (arith, few))
