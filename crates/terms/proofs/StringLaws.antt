-- The laws of lock strings. Two strings are the same exactly when their normal forms are equal.
use Prim.Native.Nat.{ℕ, min, ◌+◌, ◌-◌, ◌≤◌, ◌<◌}
use native.Mathlib.Omega.{arith}
use mathlib.Core.Path.{◌≡◌, refl, sym, ap, ◌∙◌}
use mathlib.Core.Bool.{true, ◌&&◌}
use mathlib.Core.List.{List, ◌++◌, append-nil}
use lib.Dec.{eqb, leb, lit≤}
use lib.ListN.{length, get_or, take, drop, replicate, length-take, length-drop, take-append-drop, drop_of_length-le}
use lib.Seq.{get_or-drop, take_at, take_all, drop_at}
use borrow.Author.Tests.{eqb-true, eq-eqb, leb-true, leb-false}
use Rattle.rows.proofs.BoolLaws.{by_test, and_left, and_right, and_both}
use Rattle.rows.proofs.IndexLaws.{all_at, all_from}
use Rattle.rows.proofs.BuildLaws.{same_is, same_refl, zeros_is, drop_zeros}
use Rattle.rows.proofs.RowLaws.{length_part, get_d_part, part_part, length_over}
use Rattle.rows.specs.Marks.{hash}
use Rattle.rows.specs.Numbers.{low_first}
use Rattle.rows.specs.Words.{same, zero_at, zeros}
use Rattle.rows.specs.Rows.{part, over}
use Rattle.terms.specs.declared.LockString.{LockString}
use Rattle.terms.specs.Strings.{string_at, legal, key, same_string, normal}
use Rattle.terms.specs.Shortcuts.{string_hash}

-- a legal length
pub legal_len : (s : LockString) → legal s ≡ true → (1 ≤ s.len) × (s.len ≤ 13)
unfolding legal
legal_len s l =
    (leb-true 1 s.len (and_left (leb 1 s.len) (leb s.len 13) l), leb-true s.len 13 (and_right (leb 1 s.len) (leb s.len 13) l))

-- the string that stands in a part stands in the whole
pub string_inside : (l : List ℕ) (from w at : ℕ) → at + 14 ≤ w → string_at (part l from w) at ≡ string_at l (from + at)
unfolding string_at
string_inside l from w at h =
    let next : from + (at + 1) ≡ from + at + 1 = omega arith in
    rw (get_d_part l from w at (omega arith), part_part l from w (at + 1) 13 (omega arith), next)

-- its length is the first byte
pub len_first : (l : List ℕ) → get_or l 0 0 ≡ (string_at l 0).len
unfolding string_at
len_first l = refl

-- its bytes are thirteen
pub string_long : (l : List ℕ) (at : ℕ) → at + 14 ≤ length l → length (string_at l at).bytes ≡ 13
unfolding string_at
string_long l at h = length_part l (at + 1) 13 (omega arith)

-- how long the first length bytes are
pub length_key : (s : LockString) → length (key s) ≡ min s.len (length s.bytes)
unfolding key
length_key s = length-take s.len s.bytes

-- the first length bytes, where no more than thirteen are asked for
pub key_used : (s : LockString) → length s.bytes ≡ 13 → take (min s.len 13) s.bytes ≡ key s
unfolding key
key_used s full = by_test (leb s.len 13)
    (λ y. let short : min s.len 13 ≡ s.len = omega (arith, leb-true s.len 13 y) in ap (λ (n : ℕ). take n s.bytes) short)
    (λ n. take_all (min s.len 13) s.bytes (omega (arith, leb-false s.len 13 n)) ∙ sym (take_all s.len s.bytes (omega (arith, leb-false s.len 13 n))))

-- they stand behind the length
pub key_part : (l : List ℕ) → length l ≡ 14 → part l 1 (min (get_or l 0 0) 13) ≡ key (string_at l 0)
unfolding string_at part
key_part l h =
    sym (part_part l 1 13 0 (min (get_or l 0 0) 13) (omega arith)) ∙ key_used (string_at l 0) (length_part l 1 13 (omega arith))

-- the hash of the string that stands in bytes, from where its bytes stand
pub hash_string : (l : List ℕ) → string_hash (string_at l 0) ≡ hash (low_first (part l 1 4)) (low_first (part l 5 4)) (low_first (part l 9 4)) (get_or l 13 0)
unfolding string_at string_hash
hash_string l =
    rw (part_part l 1 13 0 4 (lit≤ tt), part_part l 1 13 4 4 (lit≤ tt), part_part l 1 13 8 4 (lit≤ tt), get_d_part l 1 13 12 (lit≤ tt)) refl

-- sameness as a fact
pub record Same (a b : LockString) : Type 0 where
  pub long : a.len ≡ b.len
  pub keys : key a ≡ key b

pub same_string_is : (a b : LockString) → same_string a b ≡ true → Same a b
unfolding same_string
same_string_is a b h = record {
  long = eqb-true _ _ (and_left (eqb a.len b.len) (same (key a) (key b)) h);
  keys = same_is _ _ (and_right (eqb a.len b.len) (same (key a) (key b)) h);
}

pub is_same_string : (a b : LockString) → Same a b → same_string a b ≡ true
unfolding same_string
is_same_string a b e = and_both (eq-eqb _ _ e.long) (rw e.keys (same_refl (key b)))

pub same_string_refl : (a : LockString) → same_string a a ≡ true
same_string_refl a = is_same_string a a (record { long = refl; keys = refl })

-- the same strings have one normal form
pub same_normal : (a b : LockString) → same_string a b ≡ true → normal a ≡ normal b
unfolding normal
same_normal a b h =
    let e = same_string_is a b h in
    λ i. record { len = e.long i; bytes = over (e.keys i) (replicate 13 0) }

-- and strings with one normal form are the same
pub normal_same : (a b : LockString) → length a.bytes ≡ 13 → length b.bytes ≡ 13 → normal a ≡ normal b → same_string a b ≡ true
unfolding normal
normal_same a b fa fb e = is_same_string a b (record { long = long; keys = keys })
  where
    long : a.len ≡ b.len
    long = ap (λ (s : LockString). s.len) e

    keys : key a ≡ key b
    keys =
        sym (take_at (key a) (drop (length (key a)) (replicate 13 0)) (length (key a)) refl)
        ∙ ap (λ (s : LockString). take (length (key a)) s.bytes) e
        ∙ take_at (key b) (drop (length (key b)) (replicate 13 0)) (length (key a)) (length_key b ∙ sym (length_key a ∙ rw (long, fa, fb)))

-- only the length says whether a string is legal
pub legal_same : (a b : LockString) → same_string a b ≡ true → legal a ≡ legal b
unfolding legal
legal_same a b h = rw (same_string_is a b h).long

-- one of two strings that are the same stands for the other
pub same_string_left : (a b x : LockString) → same_string a b ≡ true → same_string a x ≡ same_string b x
unfolding same_string
same_string_left a b x h = let e = same_string_is a b h in λ i. eqb (e.long i) x.len && same (e.keys i) (key x)

pub same_string_right : (a b x : LockString) → same_string a b ≡ true → same_string x a ≡ same_string x b
unfolding same_string
same_string_right a b x h = let e = same_string_is a b h in λ i. eqb x.len (e.long i) && same (key x) (e.keys i)

pub same_string_sym : (a b : LockString) → same_string a b ≡ true → same_string b a ≡ true
same_string_sym a b h = sym (same_string_left a b a h) ∙ same_string_refl a

pub same_string_trans : (a b c : LockString) → same_string a b ≡ true → same_string b c ≡ true → same_string a c ≡ true
same_string_trans a b c p q = same_string_left a b c p ∙ q

-- a string of thirteen bytes and its normal form
module _ (s : LockString) (full : length s.bytes ≡ 13) where
  pub length_normal : length (normal s).bytes ≡ 13
  unfolding normal
  length_normal = length_over (replicate 13 0) (key s) (omega (arith, length_key s))

  pub key_normal : key (normal s) ≡ key s
  unfolding key normal
  key_normal = by_test (leb s.len 13)
      (λ y. take_at (key s) _ s.len (length_key s ∙ omega (arith, leb-true s.len 13 y)))
      (λ n.
      let long : 13 ≤ s.len = omega (arith, leb-false s.len 13 n) in
      let whole : 13 ≤ length (key s) = omega (arith, length_key s) in
      take_all s.len _ (omega (arith, length_normal)) ∙ rw (drop_of_length-le {A = ℕ} (replicate 13 0) whole) (append-nil (key s)))

  pub normal_is_same : same_string (normal s) s ≡ true
  unfolding normal
  normal_is_same = is_same_string (normal s) s (record { long = refl; keys = key_normal })

  pub same_string_normal : (x : LockString) → same_string (normal s) x ≡ same_string s x
  same_string_normal x = same_string_left (normal s) s x normal_is_same

  -- zeros follow a string of legal length
  pub normal_rest : s.len ≤ 13 → drop s.len (normal s).bytes ≡ replicate (13 - s.len) 0
  unfolding normal
  normal_rest short =
      let long : length (key s) ≡ s.len = length_key s ∙ omega arith in
      drop_at (key s) (drop (length (key s)) (replicate 13 0)) s.len long
      ∙ ap (λ (k : ℕ). drop k (replicate 13 0)) long
      ∙ drop_zeros 13 s.len short

  -- a string with zeros after its length is its own normal form
  pub zeros_normal : s.len ≤ 13 → zeros (drop s.len s.bytes) ≡ true → normal s ≡ s
  unfolding normal key
  zeros_normal short z = λ i. record { len = s.len; bytes = whole i }
    where
      rest : drop s.len (replicate 13 0) ≡ drop s.len s.bytes
      rest =
          let left : length (drop s.len s.bytes) ≡ 13 - s.len = length-drop s.len s.bytes ∙ omega arith in
          drop_zeros 13 s.len short ∙ ap (λ (k : ℕ). replicate k 0) (sym left) ∙ sym (zeros_is (drop s.len s.bytes) z)

      whole : over (key s) (replicate 13 0) ≡ s.bytes
      whole =
          let long : length (key s) ≡ s.len = length_key s ∙ omega arith in
          ap (λ (k : ℕ). key s ++ drop k (replicate 13 0)) long
          ∙ ap (λ (l : List ℕ). key s ++ l) rest
          ∙ take-append-drop s.len s.bytes

-- a string that stands in bytes, with zeros after it
module _ (r : List ℕ) (at z : ℕ) (fits : at + 14 ≤ length r) (short : (string_at r at).len ≤ 13) (enough : 13 - (string_at r at).len ≤ z) (inside : at + 1 + (string_at r at).len + z ≤ length r) (after : zeros (part r (at + 1 + (string_at r at).len) z) ≡ true) where
  -- byte k after the string, among its bytes
  byte_after : (k : ℕ) → k < 13 - (string_at r at).len → get_or (drop (string_at r at).len (string_at r at).bytes) k 0 ≡ 0
  unfolding string_at zeros zero_at
  byte_after k l =
      let n = get_or r at 0 in
      let rest = part r (at + 1 + n) z in
      let here : at + 1 + n + k ≡ at + 1 + (n + k) = omega arith in
      get_or-drop n (part r (at + 1) 13) k 0
      ∙ get_d_part r (at + 1) 13 (n + k) (omega arith)
      ∙ ap (λ (j : ℕ). get_or r j 0) (sym here)
      ∙ sym (get_d_part r (at + 1 + n) z k (omega arith))
      ∙ eqb-true _ _ (all_at (zero_at rest) (length rest) k after (omega (arith, length_part r (at + 1 + n) z inside)))

  pub string_normal : normal (string_at r at) ≡ string_at r at
  unfolding zeros zero_at
  string_normal =
      let bytes = drop (string_at r at).len (string_at r at).bytes in
      let full : length (string_at r at).bytes ≡ 13 = string_long r at fits in
      zeros_normal (string_at r at) full short
      (all_from (zero_at bytes) (length bytes) (λ k l. eq-eqb _ _ (byte_after k (omega (arith, length-drop (string_at r at).len (string_at r at).bytes)))))
