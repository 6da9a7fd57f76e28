-- The register of specs/Check.antt stays below 2 ^ 16, each step is one-to-one, and RFC 1662's good value tells whether the check is in place.
use Prim.Native.Nat.{ℕ, zero, suc, ◌+◌, ◌-◌, ◌*◌, ◌/◌, ◌%◌, ◌^◌, ◌<◌, ◌≤◌}
use native.Mathlib.Omega.{arith}
use mathlib.Core.Path.{◌≡◌, refl, sym, ap, ◌∙◌}
use mathlib.Core.Bool.{cond}
use mathlib.Core.List.{List, [], ◌∷◌}
use lib.Bits.{bit_xor, xor_block, xor_comm, xor_self, xor_zero_r, xor_zero_l, xor_add_and, xor_lt, xor_shr, xor_shifted, and_mask}
use lib.Dec.{eqb, leb}
use lib.Pow.{split}
use lib.ListN.{length, take, drop, get_or, length-drop, take-append-drop}
use lib.Seq.{take_all}
use borrow.Author.Tests.{eqb-true, eqb-false, eq-eqb, le-leb, lt-leb}
use Rattle.rows.specs.Numbers.{low_first}
use Rattle.rows.specs.Rows.{part}
use Rattle.rows.proofs.BoolLaws.{by_test, either, iff}
use Rattle.rows.proofs.NumberLaws.{Bytes, two_bytes}
use Rattle.framing.specs.Bits.{odd}
use Rattle.framing.specs.Check.{step, steps, check_byte, check_from, check}
use Rattle.framing.specs.Reading.{checks}
use Rattle.framing.proofs.BitLaws.{bytes_take}
use Rattle.framing.proofs.XorLaws.{xor_assoc, splits}
use Rattle.framing.proofs.CheckLaws.{check_append}

-- ---- the register
step_lt : (v : ℕ) → v < 2 ^ 16 → step v < 2 ^ 16
unfolding step
step_lt v l =
    let half : v / 2 < 2 ^ 16 = omega arith in
    either (odd v) (bit_xor (v / 2) 0x8408) (v / 2) (xor_lt 16 (v / 2) 0x8408 half (omega arith)) half

steps_lt : (n v : ℕ) → v < 2 ^ 16 → steps n v < 2 ^ 16
unfolding steps
steps_lt zero v l = l
steps_lt (suc n) v l = steps_lt n (step v) (step_lt v l)

pub byte_lt : (f b : ℕ) → f < 2 ^ 16 → b < 2 ^ 8 → check_byte f b < 2 ^ 16
unfolding check_byte
byte_lt f b l h = steps_lt 8 (bit_xor f b) (xor_lt 16 f b l (omega arith))

pub register_lt : (bs : List ℕ) → Bytes bs → (f : ℕ) → f < 2 ^ 16 → check_from f bs < 2 ^ 16
unfolding check_from
register_lt [] b f l = l
register_lt (x ∷ bs) b f l = register_lt bs (λ i. b (suc i)) (check_byte f x) (byte_lt f x l (b 0))

-- ---- a step is one-to-one: the top bit tells whether the polynomial was added
xor_twice : (a p : ℕ) → bit_xor (bit_xor a p) p ≡ a
xor_twice a p = xor_assoc a p p ∙ ap (bit_xor a) (xor_self p) ∙ xor_zero_r a

-- the step taken back
back : ℕ → ℕ
back u = cond (leb (2 ^ 15) u) (bit_xor u 0x8408 * 2 + 1) (u * 2)

back_step : (v : ℕ) → v < 2 ^ 16 → back (step v) ≡ v
unfolding back step odd
back_step v l = by_test (eqb (v % 2) 1)
    (λ t. rw (t, le-leb (2 ^ 15) (bit_xor (v / 2) 0x8408) (omega (arith, top)), xor_twice (v / 2) 0x8408) (omega (arith, eqb-true (v % 2) 1 t)))
    (λ f. rw (f, lt-leb (2 ^ 15) (v / 2) (omega arith)) (even (eqb-false (v % 2) 1 f)))
  where
    none : v / 2 / 2 ^ 15 ≡ 0
    none = omega arith

    top : bit_xor (v / 2) 0x8408 / 2 ^ 15 ≡ 1
    top = xor_shr (v / 2) 0x8408 15 ∙ ap (λ (x : ℕ). bit_xor x 1) none

    even : (v % 2 ≡ 1 → ⊥) → v / 2 * 2 ≡ v
    even n = omega arith

steps_one : (n v w : ℕ) → v < 2 ^ 16 → w < 2 ^ 16 → steps n v ≡ steps n w → v ≡ w
unfolding steps
steps_one zero v w l h e = e
steps_one (suc n) v w l h e =
    sym (back_step v l) ∙ ap back (steps_one n (step v) (step w) (step_lt v l) (step_lt w h) e) ∙ back_step w h

-- so is a byte, in the register and in the byte
pub state_one : (f g b : ℕ) → f < 2 ^ 16 → g < 2 ^ 16 → b < 2 ^ 8 → check_byte f b ≡ check_byte g b → f ≡ g
unfolding check_byte
state_one f g b l h s e =
    sym (xor_twice f b)
    ∙ ap (λ (v : ℕ). bit_xor v b) (steps_one 8 (bit_xor f b) (bit_xor g b) (xor_lt 16 f b l (omega arith)) (xor_lt 16 g b h (omega arith)) e)
    ∙ xor_twice g b

added_one : (n f x y : ℕ) → f < 2 ^ 16 → x < 2 ^ 16 → y < 2 ^ 16 → steps n (bit_xor f x) ≡ steps n (bit_xor f y) → x ≡ y
added_one n f x y l h k e =
    sym (xor_twice x f)
    ∙ ap (λ (v : ℕ). bit_xor v f) (xor_comm x f ∙ steps_one n (bit_xor f x) (bit_xor f y) (xor_lt 16 f x l h) (xor_lt 16 f y l k) e ∙ xor_comm f y)
    ∙ xor_twice y f

pub byte_one : (f b c : ℕ) → f < 2 ^ 16 → b < 2 ^ 8 → c < 2 ^ 8 → check_byte f b ≡ check_byte f c → b ≡ c
unfolding check_byte
byte_one f b c l h k e = added_one 8 f b c l (omega arith) (omega arith) e

-- ---- the good value
-- a number added above the eight bits that fall out is added to what is left
above : (v x : ℕ) → steps 8 (bit_xor v (x * 2 ^ 8)) ≡ bit_xor (steps 8 v) x
above v x =
    let a : ℕ = v / 2 ^ 8 in
    let r : ℕ = v % 2 ^ 8 in
    let l : r < 2 ^ 8 = omega arith in
    let zero : x * 2 ^ 8 ≡ x * 2 ^ 8 + 0 = omega arith in
    ap (λ (u : ℕ). steps 8 (bit_xor u (x * 2 ^ 8))) (sym (split v 8))
    ∙ ap (λ (u : ℕ). steps 8 (bit_xor (a * 2 ^ 8 + r) u)) zero
    ∙ ap (steps 8) (xor_block 8 a x r 0 l (omega arith) ∙ ap (λ (u : ℕ). bit_xor a x * 2 ^ 8 + u) (xor_zero_r r))
    ∙ splits 8 (bit_xor a x) r l
    ∙ ap (λ (u : ℕ). bit_xor u (steps 8 r)) (xor_comm a x)
    ∙ xor_assoc x a (steps 8 r)
    ∙ xor_comm x (bit_xor a (steps 8 r))
    ∙ ap (λ (u : ℕ). bit_xor u x) (sym (splits 8 a r l) ∙ ap (steps 8) (split v 8))

-- two bytes are one number of 16 bits, added and stepped over
two_steps : (f x y : ℕ) → x < 2 ^ 8 → check_from f (x ∷ y ∷ []) ≡ steps 16 (bit_xor f (y * 2 ^ 8 + x))
unfolding check_from check_byte steps
two_steps f x y l =
    ap (steps 8) (sym (above (bit_xor f x) y))
    ∙ ap (λ (u : ℕ). steps 16 u) (xor_assoc f x (y * 2 ^ 8) ∙ ap (bit_xor f) (xor_comm x (y * 2 ^ 8) ∙ xor_shifted y 8 x l))

flip : (f : ℕ) → f < 2 ^ 16 → bit_xor f (0xFFFF - f) ≡ 0xFFFF
flip f l =
    let same : f % 65536 ≡ f = omega arith in
    let other : bit_xor f 0xFFFF ≡ 0xFFFF - f = omega (arith, xor_add_and f 0xFFFF, and_mask f 16 ∙ same) in
    ap (bit_xor f) (sym other) ∙ sym (xor_assoc f f 0xFFFF) ∙ ap (λ (y : ℕ). bit_xor y 0xFFFF) (xor_self f) ∙ xor_zero_l 0xFFFF

good : steps 16 0xFFFF ≡ 0xF0B8
unfolding steps step odd
good = refl

-- the register comes to the good value just where its complement stands in the two bytes
ends_good : (f x y : ℕ) → f < 2 ^ 16 → x < 2 ^ 8 → y < 2 ^ 8 → eqb (check_from f (x ∷ y ∷ [])) 0xF0B8 ≡ eqb (low_first (x ∷ y ∷ [])) (0xFFFF - f)
unfolding low_first
ends_good f x y l h k =
    let w : ℕ = y * 2 ^ 8 + x in
    let n : x + 256 * (y + 256 * 0) ≡ w = omega arith in
    let is : steps 16 (bit_xor f (0xFFFF - f)) ≡ 0xF0B8 = ap (steps 16) (flip f l) ∙ good in
    rw (two_steps f x y h, n)
    (iff (eqb (steps 16 (bit_xor f w)) 0xF0B8) (eqb w (0xFFFF - f))
    (λ t. eq-eqb w (0xFFFF - f) (added_one 16 f w (0xFFFF - f) l (omega arith) (omega arith) (eqb-true _ _ t ∙ sym is)))
    (λ t. eq-eqb (steps 16 (bit_xor f w)) 0xF0B8 (ap (λ (u : ℕ). steps 16 (bit_xor f u)) (eqb-true w (0xFFFF - f) t) ∙ is)))

-- RFC 1662: the register over bytes comes to 0xF0B8 just where their last two are the check of the others
pub good_is : (c : List ℕ) → Bytes c → 2 ≤ length c → eqb (check_from 0xFFFF c) 0xF0B8 ≡ checks c
unfolding checks check part
good_is c b l =
    let n : ℕ = length c - 2 in
    let f : ℕ = check_from 0xFFFF (take n c) in
    let two : drop n c ≡ get_or c n 0 ∷ get_or c (n + 1) 0 ∷ [] = sym (take_all 2 (drop n c) (omega (arith, length-drop n c))) ∙ two_bytes c n (omega arith) in
    ap (λ (l : List ℕ). eqb (check_from 0xFFFF l) 0xF0B8) (sym (take-append-drop n c))
    ∙ ap (λ (x : ℕ). eqb x 0xF0B8) (check_append (take n c) (drop n c) 0xFFFF)
    ∙ rw two (ends_good f (get_or c n 0) (get_or c (n + 1) 0) (register_lt (take n c) (bytes_take n c b) 0xFFFF (omega arith)) (b n) (b (n + 1)))
