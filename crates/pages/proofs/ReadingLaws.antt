-- The data of a frame that was read fit the buffer.
use Rattle.std.proofs.Common.{◌≡◌, refl, ℕ, ◌≤◌, Bool, true, false, cond, eqb, List, length, arith, ltb-false}
use Rattle.rows.proofs.BoolLaws.{by_test}
use Rattle.framing.specs.Reading.{line_refusal, data_in, heading_in, read_refusal}
use Rattle.framing.specs.declared.Heading.{Heading}

-- not refused: so not with 13 either
not-13 : (k : ℕ) (short : Bool) → cond (eqb k 0) (cond short 13 0) k ≡ 0 → short ≡ false
not-13 k true z =
    by_test (eqb k 0)
    (λ (t : eqb k 0 ≡ true). let e = rw t at z in cc)
    (λ (f : eqb k 0 ≡ false). let e = rw f at z in let g = rw e at f in cc)
not-13 k false z = refl

pub fits : (s b : List ℕ) (n : ℕ) (h : Heading) → read_refusal s n b ≡ 0 → h ≡ heading_in s n → h.length ≤ length b
unfolding read_refusal heading_in
fits s b n h z e = rw e (omega (arith, ltb-false (length b) (length (data_in s n)) (not-13 (line_refusal s n) _ z)))
