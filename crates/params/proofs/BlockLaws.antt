-- Numbers laid out in bytes: how many bytes, and that they read back. Over any widths, and then for the two blocks.
use Prim.Native.Nat.{ℕ, ◌+◌, ◌%◌, ◌^◌, ◌<◌}
use native.Mathlib.Omega.{arith}
use mathlib.Core.Path.{◌≡◌, refl, ap, ap₂, ◌∙◌}
use mathlib.Core.Bool.{Bool, true, false, ◌&&◌, false≢true}
use mathlib.Core.List.{List, [], ◌∷◌, ◌++◌, append_assoc}
use lib.Dec.{ltb}
use lib.ListN.{length, length-append}
use lib.Seq.{take_at, drop_at}
use borrow.Author.Tests.{ltb-true}
use Rattle.rows.proofs.BoolLaws.{and_left, and_right}
use Rattle.rows.proofs.NumberLaws.{length_low_bytes, low_back}
use Rattle.rows.specs.Numbers.{low_bytes}
use Rattle.params.specs.declared.CpmBlock.{CpmBlock}
use Rattle.params.specs.declared.MsdosBlock.{MsdosBlock}
use Rattle.params.specs.Blocks.{laid, numbers_in, cpm_of, cpm_numbers, cpm_widths, cpm_bytes, cpm_in, msdos_of, msdos_numbers, msdos_widths, msdos_bytes, msdos_in}

-- a byte by itself
pub byte : {x : ℕ} → x < 256 → x % 256 ≡ x
byte small = omega arith

-- there are as many numbers as widths, and each fits its own
abbrev pub fits : List ℕ → List ℕ → Bool
fits [] [] = true
fits [] (x ∷ xs) = false
fits (w ∷ ws) [] = false
fits (w ∷ ws) (x ∷ xs) = ltb x (256 ^ w) && fits ws xs

abbrev sum : List ℕ → ℕ
sum [] = 0
sum (w ∷ ws) = w + sum ws

pub laid_long : (ws xs : List ℕ) → length xs ≡ length ws → length (laid ws xs) ≡ sum ws
unfolding laid
laid_long [] xs e = refl
laid_long (w ∷ ws) [] e = absurd (omega arith)
laid_long (w ∷ ws) (x ∷ xs) e = length-append (low_bytes w x) (laid ws xs) ∙ ap₂ ◌+◌ (length_low_bytes w x) (laid_long ws xs (omega arith))

pub laid_back : (ws xs rest : List ℕ) → fits ws xs ≡ true → numbers_in ws (laid ws xs ++ rest) ≡ xs
unfolding laid numbers_in
laid_back [] [] rest f = refl
laid_back [] (x ∷ xs) rest f = absurd (false≢true f)
laid_back (w ∷ ws) [] rest f = absurd (false≢true f)
laid_back (w ∷ ws) (x ∷ xs) rest f =
    let small = ltb-true x (256 ^ w) (and_left (ltb x (256 ^ w)) (fits ws xs) f) in
    let others = laid_back ws xs rest (and_right (ltb x (256 ^ w)) (fits ws xs) f) in
    rw (append_assoc (low_bytes w x) (laid ws xs) rest, take_at (low_bytes w x) (laid ws xs ++ rest) w (length_low_bytes w x), drop_at (low_bytes w x) (laid ws xs ++ rest) w (length_low_bytes w x), low_back w x small, others)

-- records whose numbers are laid out so: whatever bytes follow, they read back
module _ {A : Type 0} (ws : List ℕ) (of : List ℕ → A) (numbers : A → List ℕ) (again : (p : A) → of (numbers p) ≡ p) where
  record_back : (p : A) → fits ws (numbers p) ≡ true → (rest : List ℕ) → of (numbers_in ws (laid ws (numbers p) ++ rest)) ≡ p
  record_back p f rest = ap of (laid_back ws (numbers p) rest f) ∙ again p

-- each block has 15 bytes, and they read back as the record
pub cpm_long : (p : CpmBlock) → length (cpm_bytes p) ≡ 15
unfolding cpm_bytes cpm_widths cpm_numbers
cpm_long p = laid_long cpm_widths (cpm_numbers p) refl

pub cpm_back : (p : CpmBlock) → fits cpm_widths (cpm_numbers p) ≡ true → (rest : List ℕ) → cpm_in (cpm_bytes p ++ rest) ≡ p
unfolding cpm_bytes cpm_in cpm_of cpm_numbers
cpm_back = record_back cpm_widths cpm_of cpm_numbers (λ p. refl)

pub msdos_long : (p : MsdosBlock) → length (msdos_bytes p) ≡ 15
unfolding msdos_bytes msdos_widths msdos_numbers
msdos_long p = laid_long msdos_widths (msdos_numbers p) refl

pub msdos_back : (p : MsdosBlock) → fits msdos_widths (msdos_numbers p) ≡ true → (rest : List ℕ) → msdos_in (msdos_bytes p ++ rest) ≡ p
unfolding msdos_bytes msdos_in msdos_of msdos_numbers
msdos_back = record_back msdos_widths msdos_of msdos_numbers (λ p. refl)
