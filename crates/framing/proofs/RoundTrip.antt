-- Reading over a frame's bits: the scan stops at the closing flag with the content before it, whatever follows.
use Prim.Native.Nat.{ℕ, zero, suc, ◌+◌, ◌-◌, ◌*◌, ◌/◌, ◌%◌, ◌^◌, ◌<◌, ◌≤◌}
use native.Mathlib.Omega.{arith}
use mathlib.Core.Path.{◌≡◌, refl, sym, ap, ◌∙◌}
use mathlib.Core.Bool.{Bool, true, false, cond, not}
use mathlib.Core.List.{List, [], ◌∷◌, ◌++◌, append_assoc}
use lib.Dec.{eqb}
use lib.ListN.{length, take, drop, get_or, length-append, length-drop, take-append-drop}
use lib.Seq.{take_at, drop_at, take-take, drop-cons, get_or-drop}
use borrow.Author.Tests.{eqb-true, eqb-false, eq-eqb, ne_eqb, le-ltb, le-leb, lt-leb}
use Rattle.rows.specs.Numbers.{low_first, low_bytes}
use Rattle.rows.specs.Rows.{part}
use Rattle.rows.proofs.BoolLaws.{by_test}
use Rattle.rows.proofs.NumberLaws.{Bytes, length_low_bytes, low_back, bytes_back}
use Rattle.framing.specs.Bits.{to_bits, bit, pack}
use Rattle.framing.specs.Zeros.{with_zeros}
use Rattle.framing.specs.Check.{check, check_bytes}
use Rattle.framing.specs.Promises.{First}
use Rattle.framing.specs.Frame.{flag, content, framed, frame_bits}
use Rattle.framing.specs.Reading.{stopped, starts, scan, opens, scanned, data_of, checks, content_refusal, scan_refusal, line_refusal, scan_content, content_in}
use Rattle.framing.specs.Inner.{run_after, sixths}
use Rattle.framing.proofs.BitLaws.{length_to_bits, pack_to_bits}
use Rattle.framing.proofs.ZeroLaws.{run_le, without_with}
use Rattle.framing.proofs.ScanLaws.{scan_quiet}

-- ---- the scan over a frame
scan_flag : (rest : List Bool) → scan 0 [] (flag ++ rest) ≡ scan 0 [] rest
unfolding scan flag
scan_flag rest = refl

-- no sixth one stands where zeros were put in
sixths_with : (c : List Bool) (k : ℕ) → k < 5 → sixths k (with_zeros k c) ≡ 0
unfolding sixths with_zeros bit
sixths_with [] k l = refl
sixths_with (false ∷ c) k l = rw (ne_eqb k 5 (λ (e : k ≡ 5). omega arith)) (sixths_with c 0 (omega arith))
sixths_with (true ∷ c) k l = by_test (eqb k 4)
    (λ t. rw (t, eqb-true k 4 t) (omega (arith, sixths_with c 0 (omega arith))))
    (λ f. rw (f, ne_eqb k 5 (λ (e : k ≡ 5). omega arith)) (sixths_with c (k + 1) (less (eqb-false k 4 f))))
  where
    less : (k ≡ 4 → ⊥) → k + 1 < 5
    less n = omega arith

abbrev seven : List Bool
seven = false ∷ true ∷ true ∷ true ∷ true ∷ true ∷ true ∷ []

together : (s : List Bool) (f t : Bool) → ((((((s ++ (f ∷ [])) ++ (t ∷ [])) ++ (t ∷ [])) ++ (t ∷ [])) ++ (t ∷ [])) ++ (t ∷ [])) ++ (t ∷ []) ≡ s ++ (f ∷ t ∷ t ∷ t ∷ t ∷ t ∷ t ∷ [])
together s f t = simp append_assoc

scan_closes : (k : ℕ) (since rest : List Bool) → k ≤ 5 → 1 ≤ length since → scan k since (flag ++ rest) ≡ stopped since
unfolding scan flag
scan_closes k since rest l g =
    let long : length (since ++ seven) ≡ length since + 7 = length-append since seven in
    let less : length since ≡ length (since ++ seven) - 7 = omega arith in
    rw (ne_eqb k 6 (λ (e : k ≡ 6). omega arith), together since false true, lt-leb (length (since ++ seven)) 7 (omega arith))
    (ap stopped (take_at since seven (length (since ++ seven) - 7) less))

some_bits : (c : List Bool) → 1 ≤ length c → 1 ≤ length (with_zeros 0 c)
unfolding with_zeros
some_bits [] l = l
some_bits (true ∷ c) l = omega arith
some_bits (false ∷ c) l = omega arith

-- the scan stops with the content and its zeros
scan_framed : (c : List ℕ) (rest : List Bool) → 1 ≤ length c → scan 0 [] (drop 8 (framed c ++ rest)) ≡ stopped (with_zeros 0 (to_bits c))
unfolding framed flag
scan_framed c rest l =
    let bs : List Bool = with_zeros 0 (to_bits c) in
    ap (scan 0 []) (append_assoc flag (bs ++ (flag ++ flag)) rest)
    ∙ scan_flag ((bs ++ (flag ++ flag)) ++ rest)
    ∙ ap (scan 0 []) (append_assoc bs (flag ++ flag) rest)
    ∙ scan_quiet bs 0 [] (flag ++ (flag ++ rest)) (omega arith) (sixths_with (to_bits c) 0 (omega arith))
    ∙ scan_closes (run_after 0 bs) bs (flag ++ rest) (run_le bs 0 (omega arith)) (some_bits (to_bits c) (omega (arith, length_to_bits c)))

-- ---- what is read where a frame stands
module _ (c s : List ℕ) (m : ℕ) (f : First (framed c) s m) where
  rest : List Bool
  rest = drop (length (framed c)) (take m (to_bits s))

  then_rest : take m (to_bits s) ≡ framed c ++ rest
  unfolding rest
  then_rest =
      sym (take-append-drop (length (framed c)) (take m (to_bits s)))
      ∙ ap (λ (l : List Bool). l ++ rest) (take-take (length (framed c)) m (to_bits s) f.enough ∙ f.same)

  opens_framed : opens s m ≡ true
  unfolding opens starts framed flag
  opens_framed = rw (le-leb m (8 * length s) f.inside, then_rest)

  scanned_framed : 1 ≤ length c → scanned s m ≡ stopped (with_zeros 0 (to_bits c))
  unfolding scanned
  scanned_framed l = rw (opens_framed, then_rest) (scan_framed c rest l)

  -- the content is read again
  content_framed : Bytes c → 1 ≤ length c → content_in s m ≡ c
  unfolding content_in scan_content
  content_framed b l = rw (scanned_framed l) (ap pack (without_with (to_bits c) 0 (omega arith)) ∙ pack_to_bits c b)

  -- with the right length only the check can refuse it
  pub refusal_framed : Bytes c → 4 ≤ length c → length c ≤ 1027 → line_refusal s m ≡ cond (not (checks c)) 22 0
  unfolding line_refusal scan_refusal content_refusal
  refusal_framed b l g =
      let bs : List Bool = to_bits c in
      let n : length bs ≡ 8 * length c = length_to_bits c in
      rw (scanned_framed (omega arith), without_with bs 0 (omega arith), eq-eqb (length bs % 8) 0 (omega arith), le-ltb (length bs / 8) 4 (omega arith), le-ltb 1027 (length bs / 8) (omega arith), pack_to_bits c b)

-- ---- bytes and a check after them
pub bytes_append : (xs ys : List ℕ) → Bytes xs → Bytes ys → Bytes (xs ++ ys)
bytes_append [] ys a b i = b i
bytes_append (x ∷ xs) ys a b zero = a 0
bytes_append (x ∷ xs) ys a b (suc i) = bytes_append xs ys (λ j. a (suc j)) b i

pub bytes_cons : (x : ℕ) (xs : List ℕ) → x < 2 ^ 8 → Bytes xs → Bytes (x ∷ xs)
bytes_cons x xs l b zero = l
bytes_cons x xs l b (suc i) = b i

bytes_low : (n x : ℕ) → Bytes (low_bytes n x)
unfolding low_bytes
bytes_low zero x i = omega arith
bytes_low (suc n) x zero = omega arith
bytes_low (suc n) x (suc i) = bytes_low n (x / 256) i

pub bytes_checked : (xs ys : List ℕ) → Bytes xs → Bytes (xs ++ check_bytes ys)
unfolding check_bytes
bytes_checked xs ys b = bytes_append xs (low_bytes 2 (check ys)) b (bytes_low 2 (check ys))

pub length_checked : (xs ys : List ℕ) → length (xs ++ check_bytes ys) ≡ length xs + 2
unfolding check_bytes
length_checked xs ys = length-append xs (low_bytes 2 (check ys)) ∙ ap (λ (k : ℕ). length xs + k) (length_low_bytes 2 (check ys))

check_lt : (ys : List ℕ) → check ys < 256 ^ 2
unfolding check
check_lt ys = omega arith

-- the check that stands after bytes is compared with theirs
pub checks_checked : (xs ys : List ℕ) → checks (xs ++ check_bytes ys) ≡ eqb (check ys) (check xs)
unfolding checks check_bytes
checks_checked xs ys =
    let n : length xs ≡ length (xs ++ low_bytes 2 (check ys)) - 2 = omega (arith, length_checked xs ys) in
    rw (drop_at xs (low_bytes 2 (check ys)) _ n, take_at xs (low_bytes 2 (check ys)) _ n, low_back 2 (check ys) (check_lt ys))

-- ---- the content of a frame
module _ (user : ℕ) (d : List ℕ) where
  pub content_bytes : user < 2 ^ 8 → Bytes d → Bytes (content user d)
  unfolding content
  content_bytes u b = bytes_checked (user ∷ d) (user ∷ d) (bytes_cons user d u b)

  pub length_content : length (content user d) ≡ length d + 3
  unfolding content
  length_content = length_checked (user ∷ d) (user ∷ d) ∙ omega arith

  pub checks_content : checks (content user d) ≡ true
  unfolding content
  checks_content = checks_checked (user ∷ d) (user ∷ d) ∙ eq-eqb (check (user ∷ d)) (check (user ∷ d)) refl

  pub user_content : get_or (content user d) 0 0 ≡ user
  unfolding content
  user_content = refl

  pub data_content : data_of (content user d) ≡ d
  unfolding data_of part content
  data_content = take_at d (check_bytes (user ∷ d)) (length (content user d) - 3) (omega (arith, length_content))

  -- it is read where the frame's bits stand first
  pub content_read : (s : List ℕ) (m : ℕ) → user < 2 ^ 8 → Bytes d → First (frame_bits user d) s m → content_in s m ≡ content user d
  unfolding frame_bits
  content_read s m u b f = content_framed (content user d) s m f (content_bytes u b) (omega (arith, length_content))

-- bytes with their check in place are the content of what is read from them
pub content_is : (c : List ℕ) → Bytes c → 4 ≤ length c → checks c ≡ true → c ≡ content (get_or c 0 0) (data_of c)
unfolding checks content data_of part check_bytes
content_is c b l t =
    let n : ℕ = length c - 2 in
    let two : length (drop n c) ≡ 2 = omega (arith, length-drop n c) in
    let one : n ≡ suc (length c - 3) = omega arith in
    let body : take n c ≡ get_or c 0 0 ∷ take (length c - 3) (drop 1 c) = ap (λ (k : ℕ). take k c) one ∙ ap (take (suc (length c - 3))) (drop-cons c 0 0 (omega arith)) in
    let back : low_bytes 2 (check (take n c)) ≡ drop n c =
    ap (low_bytes 2) (sym (eqb-true (low_first (drop n c)) (check (take n c)) t)) ∙ ap (λ (k : ℕ). low_bytes k (low_first (drop n c))) (sym two) ∙ bytes_back (drop n c) (λ i. rw (get_or-drop n c i 0) (b (n + i))) in
    sym (take-append-drop n c) ∙ ap (λ (e : List ℕ). take n c ++ e) (sym back) ∙ ap (λ (e : List ℕ). e ++ low_bytes 2 (check e)) body
