-- The entries of the tables of zeros, taken apart: one test at each of their places, computed once.
use Prim.Native.Nat.{ℕ, ◌+◌, ◌*◌, ◌/◌, ◌%◌, ◌^◌, ◌<◌, ◌≤◌}
use native.Mathlib.Omega.{arith}
use mathlib.Core.Path.{◌≡◌, refl}
use mathlib.Core.Bool.{Bool, true, ◌&&◌}
use mathlib.Core.List.{List}
use lib.Dec.{eqb, leb}
use lib.ListN.{length, get_or}
use borrow.Author.Tests.{eqb-true, leb-true}
use Rattle.rows.specs.Words.{all, build}
use Rattle.rows.proofs.BoolLaws.{and_left, and_right}
use Rattle.rows.proofs.IndexLaws.{all_at}
use Rattle.rows.proofs.BuildLaws.{get_D_build}
use Rattle.framing.specs.Bits.{odd, bits_of, bit, value}
use Rattle.framing.specs.Zeros.{with_zeros, without_zeros}
use Rattle.framing.specs.Inner.{ones_after, run_after, sixths, half_at, put_entry, put_table, taken_entry, taken_table}
use Rattle.framing.specs.declared.zeros.TheConstants.{PUT, TAKEN}
use Rattle.framing.proofs.BitLaws.{bits_value, value_lt}

-- x is the number of bits that are n more than a few, y the ones that stand last, after them
abbrev Apart : ℕ → ℕ → ℕ → ℕ → List Bool → ℕ → Bool
Apart v n y few bs ones = eqb v (value bs) && (eqb (few + n) (length bs) && eqb y ones)

unfoldable put_test : ℕ → Bool
put_test i =
    Apart (put_entry i % 32) (put_entry i / 32 % 2) (put_entry i / 64) 4 (with_zeros (i / 16) (half_at i)) (ones_after (i / 16) (half_at i))
    && leb (put_entry i) 511

unfoldable taken_test : ℕ → Bool
taken_test i =
    Apart (taken_entry i % 16) (taken_entry i / 16 % 2) (taken_entry i / 32 % 8) 3 (without_zeros (i / 16) (half_at i)) (run_after (i / 16) (half_at i))
    && (eqb (taken_entry i / 256) (sixths (i / 16) (half_at i)) && leb (taken_entry i) 511)

put_tested : all put_test 80 ≡ true
unfolding all put_test put_entry half_at with_zeros ones_after bits_of odd value bit
put_tested = refl

taken_tested : all taken_test 96 ≡ true
unfolding all taken_test taken_entry half_at without_zeros run_after sixths bits_of odd value bit
taken_tested = refl

-- the place of half a byte x after k ones
place : (k x : ℕ) → x < 16 → ((16 * k + x) / 16 ≡ k) × ((16 * k + x) % 16 ≡ x)
place k x l = (omega arith, omega arith)

-- what an entry says
pub record Entry (v count ones : ℕ) (bs : List Bool) (after : ℕ) : Type 0 where
  pub bits : v ≡ value bs
  pub long : count ≡ length bs
  pub last : ones ≡ after

apart : (v n y few : ℕ) (bs : List Bool) (ones : ℕ) → Apart v n y few bs ones ≡ true → Entry v (few + n) y bs ones
apart v n y few bs ones t =
    let rest : (eqb (few + n) (length bs) && eqb y ones) ≡ true = and_right (eqb v (value bs)) (eqb (few + n) (length bs) && eqb y ones) t in
    record {
      bits = eqb-true v (value bs) (and_left (eqb v (value bs)) (eqb (few + n) (length bs) && eqb y ones) t);
      long = eqb-true (few + n) (length bs) (and_left (eqb (few + n) (length bs)) (eqb y ones) rest);
      last = eqb-true y ones (and_right (eqb (few + n) (length bs)) (eqb y ones) rest);
    }

pub record PutRead (k x e : ℕ) : Type 0 where
  pub entry : Entry (e % 32) (4 + e / 32 % 2) (e / 64) (with_zeros k (bits_of 4 x)) (ones_after k (bits_of 4 x))
  pub few : e ≤ 511

-- the code's table is the one of specs/
put_table_is : PUT ≡ put_table
unfolding put_table build bits_of odd bit value put_entry half_at with_zeros ones_after
put_table_is = refl

pub put_read : (k x e : ℕ) → e ≡ get_or PUT (16 * k + x) 0 → k < 5 → x < 16 → PutRead k x e
unfolding put_table put_test half_at
put_read k x e is l h =
    let i : ℕ = 16 * k + x in
    let at = place k x h in
    let p : get_or (build put_entry 80) i 0 ≡ put_entry i = get_D_build put_entry 80 i 0 (omega arith) in
    let front : Bool = Apart (put_entry i % 32) (put_entry i / 32 % 2) (put_entry i / 64) 4 (with_zeros (i / 16) (half_at i)) (ones_after (i / 16) (half_at i)) in
    let t : (front && leb (put_entry i) 511) ≡ true = all_at put_test 80 i put_tested (omega arith) in
    rw (is, put_table_is, p)
    (record {
      entry = rw (at.0, at.1) at (apart (put_entry i % 32) (put_entry i / 32 % 2) (put_entry i / 64) 4 (with_zeros (i / 16) (half_at i)) (ones_after (i / 16) (half_at i)) (and_left front (leb (put_entry i) 511) t));
      few = leb-true (put_entry i) 511 (and_right front (leb (put_entry i) 511) t);
    })

pub record TakenRead (k x e : ℕ) : Type 0 where
  pub entry : Entry (e % 16) (3 + e / 16 % 2) (e / 32 % 8) (without_zeros k (bits_of 4 x)) (run_after k (bits_of 4 x))
  pub six : e / 256 ≡ sixths k (bits_of 4 x)
  pub few : e ≤ 511

-- the code's table is the one of specs/
taken_table_is : TAKEN ≡ taken_table
unfolding taken_table build bits_of odd bit value taken_entry half_at without_zeros run_after sixths
taken_table_is = refl

pub taken_read : (k x e : ℕ) → e ≡ get_or TAKEN (16 * k + x) 0 → k ≤ 5 → x < 16 → TakenRead k x e
unfolding taken_table taken_test half_at
taken_read k x e is l h =
    let i : ℕ = 16 * k + x in
    let at = place k x h in
    let p : get_or (build taken_entry 96) i 0 ≡ taken_entry i = get_D_build taken_entry 96 i 0 (omega arith) in
    let front : Bool = Apart (taken_entry i % 16) (taken_entry i / 16 % 2) (taken_entry i / 32 % 8) 3 (without_zeros (i / 16) (half_at i)) (run_after (i / 16) (half_at i)) in
    let six : Bool = eqb (taken_entry i / 256) (sixths (i / 16) (half_at i)) in
    let few : Bool = leb (taken_entry i) 511 in
    let t : (front && (six && few)) ≡ true = all_at taken_test 96 i taken_tested (omega arith) in
    let back : (six && few) ≡ true = and_right front (six && few) t in
    rw (is, taken_table_is, p)
    (record {
      entry = rw (at.0, at.1) at (apart (taken_entry i % 16) (taken_entry i / 16 % 2) (taken_entry i / 32 % 8) 3 (without_zeros (i / 16) (half_at i)) (run_after (i / 16) (half_at i)) (and_left front (six && few) t));
      six = rw (at.0, at.1) at (eqb-true (taken_entry i / 256) (sixths (i / 16) (half_at i)) (and_left six few back));
      few = leb-true (taken_entry i) 511 (and_right six few back);
    })

-- the bits of an entry
pub entry_bits : {v n o a : ℕ} {bs : List Bool} → Entry v n o bs a → bits_of n v ≡ bs
entry_bits {v} {n} {bs = bs} e = bits_value bs n v e.bits e.long

pub entry_small : {v n o a : ℕ} {bs : List Bool} → Entry v n o bs a → v < 2 ^ n
entry_small {bs = bs} e = rw (e.bits, e.long) (value_lt bs)
