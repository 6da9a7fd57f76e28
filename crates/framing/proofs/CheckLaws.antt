-- The laws of specs/Check.antt: the step by the table, bytes one after the other, each step one-to-one, and RFC 1662's good value.
use Prim.Native.Nat.{ℕ, ◌+◌, ◌/◌, ◌%◌, ◌^◌, ◌<◌}
use native.Mathlib.Numerals.{add-one}
use native.Mathlib.Omega.{arith}
use mathlib.Core.Path.{◌≡◌, refl, sym, ap, ◌∙◌}
use mathlib.Core.List.{List, [], ◌∷◌, ◌++◌}
use lib.Bits.{bit_xor, xor_zero_r, xor_shr}
use lib.Pow.{split}
use lib.ListN.{length, drop, get_or}
use lib.Seq.{drop-cons}
use Rattle.rows.proofs.BuildLaws.{get_D_build}
use Rattle.rows.specs.Words.{build}
use Rattle.framing.specs.Bits.{odd}
use Rattle.framing.specs.Check.{step, steps, check_table, check_byte, check_from}
use Rattle.framing.specs.declared.fcs.TheConstants.{TABLE}
use Rattle.framing.proofs.XorLaws.{splits}

-- the step by the table is the one bit by bit: the register's high byte, and eight steps of the low one
pub table_step : (f b : ℕ) → b < 2 ^ 8 → bit_xor (f / 256) (steps 8 (bit_xor f b % 256)) ≡ check_byte f b
unfolding check_byte
table_step f b hb =
    let v : ℕ = bit_xor f b in
    ap (λ (x : ℕ). bit_xor x (steps 8 (v % 256))) (sym (xor_shr f b 8 ∙ ap (bit_xor (f / 256)) z ∙ xor_zero_r (f / 256)))
    ∙ sym (splits 8 (v / 256) (v % 256) (omega arith))
    ∙ ap (steps 8) (split v 8)
  where
    z : b / 256 ≡ 0
    z = omega arith

-- the code's table is the one of specs/
table_is : TABLE ≡ check_table
unfolding check_table build steps step odd
table_is = refl

pub entry_is : (i : ℕ) → i < 256 → get_or TABLE i 0 ≡ steps 8 i
unfolding check_table
entry_is i l = ap (λ (t : List ℕ). get_or t i 0) table_is ∙ get_D_build (steps 8) 256 i 0 l

-- ---- bytes one after the other
pub check_more : (f : ℕ) (s : List ℕ) (i : ℕ) → i < length s → check_from f (drop i s) ≡ check_from (check_byte f (get_or s i 0)) (drop (i + 1) s)
unfolding check_from
check_more f s i l = rw (drop-cons s i 0 l, add-one)

pub check_append : (xs ys : List ℕ) (f : ℕ) → check_from f (xs ++ ys) ≡ check_from (check_from f xs) ys
unfolding check_from
check_append [] ys f = refl
check_append (x ∷ xs) ys f = check_append xs ys (check_byte f x)
