-- A scan that stopped at a flag: flags that follow at once, the bits before it, and whatever comes after. No sixth one stands in
-- those bits, so their zeros are where writing puts them.
use Prim.Native.Nat.{ℕ, zero, suc, ◌+◌, ◌-◌, ◌*◌, ◌/◌, ◌%◌, ◌<◌, ◌≤◌}
use native.Mathlib.Nat.{suc-ne-zero}
use native.Mathlib.Numerals.{add-one}
use native.Mathlib.Omega.{arith}
use mathlib.Core.Path.{◌≡◌, refl, sym, ap, ◌∙◌}
use mathlib.Core.Bool.{Bool, true, false, cond, not}
use mathlib.Core.List.{List, [], ◌∷◌, ◌++◌, append-nil, append_assoc}
use lib.Dec.{eqb, leb, ltb}
use lib.ListN.{length, take, drop, get_or, replicate, length-append, length-replicate, length-drop, take-append-drop}
use lib.Seq.{take_all, take_at, length-take-le, get_or-drop}
use borrow.Author.Tests.{eqb-true, eqb-false, ne_eqb, leb-true, leb-false, ltb-false, not-false}
use Rattle.rows.proofs.BoolLaws.{by_test, and_right}
use Rattle.rows.proofs.NumberLaws.{Bytes}
use Rattle.rows.specs.Rows.{part}
use Rattle.framing.specs.Bits.{to_bits, bit, bytes_for, pack}
use Rattle.framing.specs.Zeros.{with_zeros, without_zeros}
use Rattle.framing.specs.Promises.{Flags, done, whole, shared}
use Rattle.framing.specs.Frame.{flag, content}
use Rattle.framing.specs.Reading.{Scan, ended, sevenOnes, stopped, starts, scan, opens, scanned, data_of, checks, content_refusal, scan_refusal, line_refusal, scan_content, content_in, user_in, data_in}
use Rattle.framing.specs.Inner.{run_after, sixths}
use Rattle.framing.proofs.BitLaws.{bytes_take, bytes_packed, length_to_bits, length_pack, read_pack}
use Rattle.framing.proofs.ZeroLaws.{sixths_append}
use Rattle.framing.proofs.ScanLaws.{starts_is}
use Rattle.framing.proofs.RoundTrip.{content_is}

-- ---- zeros taken out and put in again. Where bits end in five ones there was none to take out, and one is put in
again : ℕ → List Bool → List Bool
again k bs = cond (eqb k 5) (false ∷ with_zeros 0 bs) (with_zeros k bs)

again_one : (k : ℕ) (bs : List Bool) → k + 1 ≤ 5 → with_zeros k (true ∷ bs) ≡ true ∷ again (k + 1) bs
unfolding again with_zeros
again_one k bs l = by_test (eqb k 4)
    (λ t. rw (eqb-true k 4 t))
    (λ f. rw (f, ne_eqb (k + 1) 5 (less (eqb-false k 4 f))))
  where
    less : (k ≡ 4 → ⊥) → k + 1 ≡ 5 → ⊥
    less n e = n (omega arith)

put_again : (raw : List Bool) (k : ℕ) → k ≤ 5 → sixths k raw ≡ 0 → again k (without_zeros k raw) ≡ raw ++ cond (eqb (run_after k raw) 5) (false ∷ []) []
unfolding again with_zeros without_zeros run_after sixths bit
put_again [] k l z = by_test (eqb k 5) (λ t. rw t) (λ f. rw f)
put_again (false ∷ raw) k l z = by_test (eqb k 5)
    (λ t. rw t (ap (λ (q : List Bool). false ∷ q) (put_again raw 0 (omega arith) (rest (rw t at z)))))
    (λ f. rw f (ap (λ (q : List Bool). false ∷ q) (put_again raw 0 (omega arith) (rw f at z))))
  where
    rest : 0 + sixths 0 raw ≡ 0 → sixths 0 raw ≡ 0
    rest e = omega arith
put_again (true ∷ raw) k l z = by_test (eqb k 5)
    (λ t. absurd (one (rw t at z)))
    (λ f. rw f (again_one k (without_zeros (k + 1) raw) (less (eqb-false k 5 f)) ∙ ap (λ (q : List Bool). true ∷ q) (put_again raw (k + 1) (less (eqb-false k 5 f)) (rw f at z))))
  where
    one : 1 + sixths 0 raw ≡ 0 → ⊥
    one e = omega arith

    less : (k ≡ 5 → ⊥) → k + 1 ≤ 5
    less n = omega arith

with_without : (raw : List Bool) → sixths 0 raw ≡ 0 → with_zeros 0 (without_zeros 0 raw) ≡ raw ++ cond (eqb (run_after 0 raw) 5) (false ∷ []) []
unfolding again
with_without raw z = put_again raw 0 (omega arith) z

-- ---- what stands where a scan has stopped
pub record Stop (bs raw : List Bool) : Type 0 where
  pub lead : List Bool
  pub tail : List Bool
  pub flags : Flags lead
  pub parts : bs ≡ lead ++ (raw ++ (flag ++ tail))
  pub zeros : with_zeros 0 (without_zeros 0 raw) ≡ raw ++ cond (eqb (run_after 0 raw) 5) (false ∷ []) []

-- the bits since the last flag end in so many ones, and no sixth one stands before those
data Run : ℕ → List Bool → Type 0 where
  only : (k : ℕ) → Run k (replicate k true)
  after : (k : ℕ) (p : List Bool) → sixths 0 p ≡ 0 → Run k (p ++ (false ∷ replicate k true))

grow : (k : ℕ) → replicate k true ++ (true ∷ []) ≡ replicate (suc k) true
grow zero = refl
grow (suc k) = ap (λ (l : List Bool). true ∷ l) (grow k)

one_more : {k : ℕ} {s : List Bool} → Run k s → Run (suc k) (s ++ (true ∷ []))
one_more (only k) = rw (grow k) (only (suc k))
one_more (after k p z) = rw (append_assoc p (false ∷ replicate k true) (true ∷ []), grow k) (after (suc k) p z)

-- at most five ones, and five ones after a zero
five_ones : (k r : ℕ) → k + r ≤ 5 → sixths r (replicate k true) ≡ 0
unfolding sixths
five_ones zero r l = refl
five_ones (suc k) r l = rw (ne_eqb r 5 (λ (e : r ≡ 5). omega arith)) (five_ones k (r + 1) (omega arith))

after_zero : (k r : ℕ) → k ≤ 5 → sixths r (false ∷ replicate k true) ≡ 0
unfolding sixths bit
after_zero k r l = by_test (eqb r 5)
    (λ t. rw t (omega (arith, five_ones k 0 (omega arith))))
    (λ f. rw f (five_ones k 0 (omega arith)))

no_sixth : {k : ℕ} {s : List Bool} → Run k s → k ≤ 5 → sixths 0 s ≡ 0
no_sixth (only k) l = five_ones k 0 (omega arith)
no_sixth (after k p z) l = sixths_append p (false ∷ replicate k true) 0 ∙ omega (arith, z, after_zero k (run_after 0 p) l)

-- the bits, bracketed in another way
ahead : {xs ys raw : List Bool} → xs ≡ ys → Stop xs raw → Stop ys raw
ahead e s = record { lead = s.lead; tail = s.tail; flags = s.flags; parts = sym e ∙ s.parts; zeros = s.zeros }

-- six ones and a zero: a flag that follows at once
passed : {k : ℕ} {since : List Bool} (bs raw : List Bool) → k ≡ 6 → length since ≤ 7 → Run k since → Stop bs raw → Stop (since ++ (false ∷ bs)) raw
unfolding flag
passed bs raw six l (only k) s = rw six (record {
  lead = drop 1 flag ++ s.lead;
  tail = s.tail;
  flags = shared s.flags;
  parts = ap (λ (q : List Bool). drop 1 flag ++ q) s.parts;
  zeros = s.zeros;
})
passed bs raw six l (after k [] z) s = rw six (record {
  lead = flag ++ s.lead;
  tail = s.tail;
  flags = whole s.flags;
  parts = ap (λ (q : List Bool). flag ++ q) s.parts;
  zeros = s.zeros;
})
passed bs raw six l (after k (b ∷ p) z) s = absurd (long (length-append p (false ∷ replicate k true)) (length-replicate k true))
  where
    long : length (p ++ (false ∷ replicate k true)) ≡ length p + suc (length (replicate k true)) → length (replicate k true) ≡ k → ⊥
    long e f = omega arith

-- or the flag that ends the frame
closed : {k : ℕ} {since : List Bool} (bs raw : List Bool) → k ≡ 6 → 7 < length since → Run k since → stopped (take (length since - 7) since) ≡ stopped raw → Stop (since ++ (false ∷ bs)) raw
unfolding flag
closed bs raw six l (only k) q = absurd (short (length-replicate k true))
  where
    short : length (replicate k true) ≡ k → ⊥
    short e = omega arith
closed bs raw six l (after k p z) q =
    let x : List Bool = false ∷ replicate k true in
    let n : length p ≡ length (p ++ x) - 7 = omega (arith, length-append p x, length-replicate k true) in
    let is : raw ≡ p = sym (same q) ∙ take_at p x (length (p ++ x) - 7) n in
    record { lead = []; tail = bs; flags = done; parts = append_assoc p x (false ∷ bs) ∙ rw (is, six); zeros = rw is (with_without p z) }
  where
    same : {a b : List Bool} → stopped a ≡ stopped b → a ≡ b
    same e = cc

not_ended : {raw : List Bool} → ended ≡ stopped raw → ⊥
not_ended e = let z : ◌≡◌ {A = ℕ} 0 1 = cc in omega arith

-- each bit on, from any place
from : (bs : List Bool) (ones : ℕ) (since raw : List Bool) → ones ≤ 6 → Run ones since → scan ones since bs ≡ stopped raw → Stop (since ++ bs) raw
unfolding scan
from [] ones since raw l r e = absurd (not_ended e)
from (true ∷ bs) ones since raw l r e = by_test (eqb ones 6)
    (λ t. absurd (never (rw t at e)))
    (λ f. ahead (append_assoc since (true ∷ []) bs) (from bs (ones + 1) (since ++ (true ∷ [])) raw (less (eqb-false ones 6 f)) (rw add-one (one_more r)) (rw f at e)))
  where
    never : sevenOnes ≡ stopped raw → ⊥
    never e = let z : ◌≡◌ {A = ℕ} 0 1 = cc in omega arith

    less : (ones ≡ 6 → ⊥) → ones + 1 ≤ 6
    less n = omega arith
from (false ∷ bs) ones since raw l r e = by_test (eqb ones 6)
    (λ t. by_test (leb (length since) 7)
    (λ u. passed bs raw (eqb-true ones 6 t) (leb-true (length since) 7 u) r (from bs 0 [] raw (omega arith) (only 0) (rw (t, u) at e)))
    (λ g. closed bs raw (eqb-true ones 6 t) (leb-false (length since) 7 g) r (rw (t, g) at e)))
    (λ f. ahead (append_assoc since (false ∷ []) bs) (from bs 0 (since ++ (false ∷ [])) raw (omega arith) (after 0 since (no_sixth r (less (eqb-false ones 6 f)))) (rw f at e)))
  where
    less : (ones ≡ 6 → ⊥) → ones ≤ 5
    less n = omega arith

stops : (bs raw : List Bool) → scan 0 [] bs ≡ stopped raw → Stop bs raw
stops bs raw e = from bs 0 [] raw (omega arith) (only 0) e

-- ---- a frame that reads well
bytes_pack : (bs : List Bool) → Bytes (pack bs)
unfolding pack
bytes_pack bs = bytes_packed (bytes_for (length bs)) bs

-- whole bytes, packed, have the same bits
bits_pack : (bs : List Bool) → length bs % 8 ≡ 0 → to_bits (pack bs) ≡ bs
unfolding bytes_for
bits_pack bs e =
    sym (take_all (length bs) (to_bits (pack bs)) (omega (arith, length_to_bits (pack bs), length_pack bs)))
    ∙ ap (λ (l : List ℕ). take (length bs) (to_bits l)) (sym (append-nil (pack bs)))
    ∙ read_pack bs []

-- a test that refuses with a number above 0
pub passes : (t : Bool) (k r : ℕ) → cond t (suc k) r ≡ 0 → (t ≡ false) × (r ≡ 0)
passes true k r e = absurd (suc-ne-zero k e)
passes false k r e = (refl, e)

-- what is left where nothing was refused
stopped_at : (q : Scan) → scan_refusal q ≡ 0 → (raw : List Bool) × (q ≡ stopped raw)
unfolding scan_refusal
stopped_at ended e = absurd (suc-ne-zero 17 e)
stopped_at sevenOnes e = absurd (suc-ne-zero 18 e)
stopped_at (stopped raw) e = (raw, refl)

good_bits : (bs : List Bool) → content_refusal bs ≡ 0 → to_bits (content (get_or (pack bs) 0 0) (data_of (pack bs))) ≡ bs
unfolding content_refusal bytes_for
good_bits bs e =
    let whole = passes (not (eqb (length bs % 8) 0)) 19 _ e in
    let least = passes (ltb (length bs / 8) 4) 20 _ whole.1 in
    let most = passes (ltb 1027 (length bs / 8)) 16 _ least.1 in
    let good = passes (not (checks (pack bs))) 21 _ most.1 in
    let long : 4 ≤ length (pack bs) = omega (arith, ltb-false (length bs / 8) 4 least.0, length_pack bs) in
    ap to_bits (sym (content_is (pack bs) (bytes_pack bs) long (not-false (checks (pack bs)) good.0)))
    ∙ bits_pack bs (eqb-true (length bs % 8) 0 (not-false (eqb (length bs % 8) 0) whole.0))

-- its user number and data are bytes, and the data are 1 to 1024
good_ranges : (bs : List Bool) → content_refusal bs ≡ 0
    → (get_or (pack bs) 0 0 < 256) × Bytes (data_of (pack bs)) × (1 ≤ length (data_of (pack bs))) × (length (data_of (pack bs)) ≤ 1024)
unfolding content_refusal bytes_for data_of part
good_ranges bs e =
    let whole = passes (not (eqb (length bs % 8) 0)) 19 _ e in
    let least = passes (ltb (length bs / 8) 4) 20 _ whole.1 in
    let most = passes (ltb 1027 (length bs / 8)) 16 _ least.1 in
    let c : List ℕ = pack bs in
    let few = ltb-false (length bs / 8) 4 least.0 in
    let many = ltb-false 1027 (length bs / 8) most.0 in
    let aligned = eqb-true (length bs % 8) 0 (not-false (eqb (length bs % 8) 0) whole.0) in
    let long : length (take (length c - 3) (drop 1 c)) ≡ length c - 3 = length-take-le (length c - 3) (drop 1 c) (omega (arith, length-drop 1 c)) in
    (bytes_pack bs 0, bytes_take (length c - 3) (drop 1 c) (λ i. rw (get_or-drop 1 c i 0) (bytes_pack bs (1 + i))), omega (arith, long, few, length_pack bs), omega (arith, long, many, aligned, length_pack bs))

-- it opens with a flag, the scan stopped, and the bits it stopped with are those of what is read
pub record Well (s : List ℕ) (m : ℕ) : Type 0 where
  pub raw : List Bool
  pub opening : take m (to_bits s) ≡ flag ++ drop 8 (take m (to_bits s))
  pub stop : Stop (drop 8 (take m (to_bits s))) raw
  pub bits : to_bits (content (user_in s m) (data_in s m)) ≡ without_zeros 0 raw

module _ (s : List ℕ) (m : ℕ) where
  opened : (raw : List Bool) → scanned s m ≡ stopped raw → (opens s m ≡ true) × (scan 0 [] (drop 8 (take m (to_bits s))) ≡ stopped raw)
  unfolding scanned
  opened raw e = by_test (opens s m) (λ t. (t, rw t at e)) (λ f. absurd (not_ended (rw f at e)))

  flag_first : opens s m ≡ true → take m (to_bits s) ≡ flag ++ drop 8 (take m (to_bits s))
  unfolding opens flag
  flag_first t =
      sym (take-append-drop 8 (take m (to_bits s)))
      ∙ ap (λ (l : List Bool). l ++ drop 8 (take m (to_bits s))) (starts_is flag (take m (to_bits s)) (and_right (leb m (8 * length s)) (starts flag (take m (to_bits s))) t))

  well : (raw : List Bool) → scanned s m ≡ stopped raw → content_refusal (without_zeros 0 raw) ≡ 0 → Well s m
  unfolding user_in data_in content_in scan_content
  well raw p e =
      let o = opened raw p in
      record { raw = raw; opening = flag_first o.0; stop = stops (drop 8 (take m (to_bits s))) raw o.1; bits = rw p (good_bits (without_zeros 0 raw) e) }

  pub ranges : line_refusal s m ≡ 0 → (user_in s m < 256) × Bytes (data_in s m) × (1 ≤ length (data_in s m)) × (length (data_in s m) ≤ 1024)
  unfolding line_refusal scan_refusal user_in data_in content_in scan_content
  ranges e = let p = stopped_at (scanned s m) e in rw p.1 (good_ranges (without_zeros 0 p.0) (rw p.1 at e))

  pub reads_well : line_refusal s m ≡ 0 → Well s m
  unfolding line_refusal scan_refusal
  reads_well e = let p = stopped_at (scanned s m) e in well p.0 p.1 (rw p.1 at e)
