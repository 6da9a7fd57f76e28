-- Exclusive or is associative; k shift steps of a number are those of its k low bits, with the rest added in.
use Prim.Native.Nat.{ℕ, zero, suc, ◌+◌, ◌*◌, ◌/◌, ◌%◌, ◌^◌, ◌<◌}
use native.Mathlib.Nat.{mod-lt, pow-suc, not-suc-le-zero, le_of_suc-le-suc, add-zero, mul-one, zero-mul, zero-add}
use native.Mathlib.Omega.{arith}
use mathlib.Core.Path.{◌≡◌, refl, sym, ap, ◌∙◌}
use mathlib.Core.Bool.{Bool, true, false, cond}
use lib.Arith.{bin_ind, digits_mod, lt-one}
use lib.Pow.{pow_pos, split}
use lib.Dec.{eqb}
use lib.Bits.{bit_xor, differ, xor_step, xor_shr, xor_zero_r, xor_block, xor_lt, block_half, block_odd}
use Rattle.framing.specs.Bits.{odd}
use Rattle.framing.specs.Check.{step, steps}

differ_lt : (x y : ℕ) → x < 2 → y < 2 → differ x y < 2
differ_lt zero y a b = b
differ_lt (suc zero) zero a b = a
differ_lt (suc zero) (suc y) a b = omega arith
differ_lt (suc (suc x)) y a b = absurd (not-suc-le-zero (le_of_suc-le-suc (le_of_suc-le-suc a)))

differ_assoc : (x y z : ℕ) → x < 2 → y < 2 → z < 2 → differ (differ x y) z ≡ differ x (differ y z)
differ_assoc zero y z a b c = refl
differ_assoc (suc zero) zero z a b c = refl
differ_assoc (suc zero) (suc zero) zero a b c = refl
differ_assoc (suc zero) (suc zero) (suc zero) a b c = refl
differ_assoc (suc zero) (suc zero) (suc (suc z)) a b c = absurd (not-suc-le-zero (le_of_suc-le-suc (le_of_suc-le-suc c)))
differ_assoc (suc zero) (suc (suc y)) z a b c = absurd (not-suc-le-zero (le_of_suc-le-suc (le_of_suc-le-suc b)))
differ_assoc (suc (suc x)) y z a b c = absurd (not-suc-le-zero (le_of_suc-le-suc (le_of_suc-le-suc a)))

bit_lt : (a : ℕ) → a % 2 < 2
bit_lt a = omega arith

xor_low : (a b : ℕ) → bit_xor a b % 2 ≡ differ (a % 2) (b % 2)
xor_low a b = ap (λ (x : ℕ). x % 2) (xor_step a b) ∙ digits_mod (bit_xor (a / 2) (b / 2)) (differ_lt (a % 2) (b % 2) (bit_lt a) (bit_lt b))

pub xor_assoc : (a b c : ℕ) → bit_xor (bit_xor a b) c ≡ bit_xor a (bit_xor b c)
xor_assoc a = bin_ind (λ (n : ℕ). (b c : ℕ) → bit_xor (bit_xor n b) c ≡ bit_xor n (bit_xor b c)) (λ b c. refl) turn a
  where
    turn : (n : ℕ) → ((b c : ℕ) → bit_xor (bit_xor (n / 2) b) c ≡ bit_xor (n / 2) (bit_xor b c))
        → (b c : ℕ) → bit_xor (bit_xor n b) c ≡ bit_xor n (bit_xor b c)
    turn n ih b c =
        xor_step (bit_xor n b) c
        ∙ ap (λ (x : ℕ). bit_xor x (c / 2) * 2 + differ (bit_xor n b % 2) (c % 2)) (xor_shr n b 1)
        ∙ ap (λ (x : ℕ). bit_xor (bit_xor (n / 2) (b / 2)) (c / 2) * 2 + differ x (c % 2)) (xor_low n b)
        ∙ ap (λ (x : ℕ). x * 2 + differ (differ (n % 2) (b % 2)) (c % 2)) (ih (b / 2) (c / 2))
        ∙ ap (λ (x : ℕ). bit_xor (n / 2) (bit_xor (b / 2) (c / 2)) * 2 + x) (differ_assoc (n % 2) (b % 2) (c % 2) (bit_lt n) (bit_lt b) (bit_lt c))
        ∙ ap (λ (x : ℕ). bit_xor (n / 2) x * 2 + differ (n % 2) (differ (b % 2) (c % 2))) (sym (xor_shr b c 1))
        ∙ ap (λ (x : ℕ). bit_xor (n / 2) (bit_xor b c / 2) * 2 + differ (n % 2) x) (sym (xor_low b c))
        ∙ sym (xor_step n (bit_xor b c))

abbrev Splits : ℕ → Type 0
Splits k = (a r : ℕ) → r < 2 ^ k → steps k (a * 2 ^ k + r) ≡ bit_xor a (steps k r)

added : (k p h m : ℕ) → m < 2 ^ k → Splits k
    → steps k (bit_xor (h * 2 ^ k + m) p) ≡ bit_xor h (bit_xor (p / 2 ^ k) (steps k (bit_xor m (p % 2 ^ k))))
added k p h m l ih =
    let low : p % 2 ^ k < 2 ^ k = mod-lt p (pow_pos k) in
    ap (λ (q : ℕ). steps k (bit_xor (h * 2 ^ k + m) q)) (sym (split p k))
    ∙ ap (steps k) (xor_block k h (p / 2 ^ k) m (p % 2 ^ k) l low)
    ∙ ih (bit_xor h (p / 2 ^ k)) (bit_xor m (p % 2 ^ k)) (xor_lt k m (p % 2 ^ k) l low)
    ∙ xor_assoc h (p / 2 ^ k) (steps k (bit_xor m (p % 2 ^ k)))

turned : (k h l : ℕ) (o : Bool) → l / 2 < 2 ^ k → Splits k
    → steps k (cond o (bit_xor (h * 2 ^ k + l / 2) 0x8408) (h * 2 ^ k + l / 2)) ≡ bit_xor h (steps k (cond o (bit_xor (l / 2) 0x8408) (l / 2)))
turned k h l true s ih =
    added k 0x8408 h (l / 2) s ih
    ∙ ap (bit_xor h) (sym (added k 0x8408 0 (l / 2) s ih) ∙ ap (λ (x : ℕ). steps k (bit_xor x 0x8408)) z)
  where
    z : 0 * 2 ^ k + l / 2 ≡ l / 2
    z = rw (zero-mul, zero-add)
turned k h l false s ih = ih h (l / 2) s

pub splits : (k : ℕ) → Splits k
unfolding steps step odd
splits zero a r l = ap (λ (x : ℕ). a * 1 + x) (lt-one l) ∙ add-zero (a * 1) ∙ mul-one a ∙ sym (xor_zero_r a) ∙ ap (bit_xor a) (sym (lt-one l))
splits (suc k) a r l =
    let s : r / 2 < 2 ^ k = omega (arith, rw pow-suc at l) in
    ap (steps k) (stepped (a * 2 ^ suc k + r) (a * 2 ^ k + r / 2) (r % 2) (block_half a k r) (block_odd a k r))
    ∙ turned k a r (eqb (r % 2) 1) s (splits k)
    ∙ ap (λ (x : ℕ). bit_xor a (steps k x)) (sym (stepped r (r / 2) (r % 2) refl refl))
  where
    stepped : (v h o : ℕ) → v / 2 ≡ h → v % 2 ≡ o → step v ≡ cond (eqb o 1) (bit_xor h 0x8408) h
    stepped v h o p q = rw (p, q, step)
