-- The laws of one place of the list.
use Prim.Native.Nat.{ℕ, suc, ◌+◌, ◌-◌, ◌<◌, ◌≤◌}
use native.Mathlib.Omega.{arith}
use mathlib.Core.Path.{◌≡◌, refl, sym, ap, ◌∙◌}
use mathlib.Core.Bool.{true, false}
use mathlib.Core.List.{List, [], ◌∷◌}
use lib.Dec.{eqb}
use lib.ListN.{length, get_or, take, drop, replicate, length-replicate, length-drop}
use lib.Seq.{take_all, drop-drop}
use borrow.Author.Tests.{ne_eqb, le-leb, lt-leb}
use Rattle.rows.specs.Words.{all, zeros, zero_at}
use Rattle.rows.specs.Rows.{part, row}
use Rattle.rows.proofs.BoolLaws.{by_eq, iff, and_left, and_right}
use Rattle.rows.proofs.BuildLaws.{zeros_is, is_zeros}
use Rattle.rows.proofs.IndexLaws.{all_breaks}
use Rattle.terms.specs.declared.LockString.{LockString}
use Rattle.terms.specs.Strings.{string_at, string_bytes, legal, normal}
use Rattle.terms.specs.Tables.{is_free, string_in, row_in, row_free}
use Rattle.terms.proofs.StringLaws.{legal_len, legal_same, length_normal, normal_is_same, normal_rest, string_normal}
use Rattle.station.specs.State.{place_string, unused}
use Rattle.station.specs.Good.{good_place}

-- a list that begins with zero holds zeros alone just where the rest does
pub zeros_rest : (r : List ℕ) → 0 < length r → get_or r 0 0 ≡ 0 → zeros (drop 1 r) ≡ zeros r
zeros_rest [] some z = absurd (omega arith)
zeros_rest (x ∷ t) some z = iff (zeros t) (zeros (x ∷ t))
    (λ y. let e : x ∷ t ≡ replicate (suc (length t)) 0 = ap (λ (k : ℕ). k ∷ t) z ∙ ap (λ (l : List ℕ). 0 ∷ l) (zeros_is t y) in ap zeros e ∙ is_zeros (suc (length t)))
    (λ y. let e : t ≡ replicate (length t) 0 = ap (drop 1) (zeros_is (x ∷ t) y) in ap zeros e ∙ is_zeros (length t))

pub zeros_not : (r : List ℕ) → 0 < length r → (get_or r 0 0 ≡ 0 → ⊥) → zeros r ≡ false
unfolding zeros zero_at
zeros_not r some nz = all_breaks (zero_at r) (length r) 0 some (ne_eqb _ _ nz)

-- a place by what stands behind its string: that is what stands behind the length where there is none
pub place_by_rest : (r : List ℕ) → length r ≡ 14 → get_or r 0 0 ≤ 13 → zeros (drop (1 + get_or r 0 0) r) ≡ good_place r
unfolding good_place is_free string_in legal string_at part
place_by_rest r long short = by_eq (get_or r 0 0) 0
    (λ z. rw z (zeros_rest r (omega arith) z))
    (λ ne.
    let used : 1 ≤ get_or r 0 0 = omega arith in
    rw (ne_eqb _ _ ne, le-leb 1 _ used, le-leb _ 13 short) (ap zeros (sym (take_all (13 - get_or r 0 0) (drop (1 + get_or r 0 0) r) (omega (arith, length-drop (1 + get_or r 0 0) r))))))

pub place_too_long : (r : List ℕ) → 13 < get_or r 0 0 → good_place r ≡ false
unfolding good_place is_free string_in legal string_at
place_too_long r long = let used : 1 ≤ get_or r 0 0 = omega arith in rw (ne_eqb (get_or r 0 0) 0 (λ e. omega arith), le-leb 1 _ used, lt-leb _ 13 long)

-- the place of zeros is good
pub zeros_good : good_place (replicate 14 0) ≡ true
unfolding good_place is_free zeros zero_at all
zeros_good = refl

-- a good place that is used holds a legal string
pub used_legal : (l : List ℕ) (i : ℕ) → good_place (row 14 l i) ≡ true → unused l i ≡ false → legal (place_string (row 14 l i)) ≡ true
unfolding good_place row_in row_free
used_legal l i g u = and_left (legal (place_string (row 14 l i))) _ (rw u at g)

-- the place of a new string
abbrev pub placed : LockString → List ℕ
placed x = string_bytes (normal x)

module _ (x : LockString) (full : length x.bytes ≡ 13) where
  pub placed_long : length (placed x) ≡ 14
  placed_long = rw (length_normal x full)

  pub placed_string : place_string (placed x) ≡ normal x
  unfolding string_in part normal string_at
  placed_string = λ i. record { len = x.len; bytes = take_all 13 (normal x).bytes (omega (arith, length_normal x full)) i }

  module _ (l : legal x ≡ true) where
    pub placed_used : eqb (normal x).len 0 ≡ false
    unfolding normal
    placed_used = ne_eqb x.len 0 (λ e. omega (arith, (legal_len x l).0))

    zeros_behind : part (placed x) (1 + (normal x).len) (13 - (normal x).len) ≡ replicate (13 - x.len) 0
    unfolding part normal
    zeros_behind =
        ap (take (13 - x.len)) (sym (drop-drop x.len 1 (placed x)) ∙ normal_rest x full (legal_len x l).1)
        ∙ take_all (13 - x.len) (replicate (13 - x.len) 0) (omega (arith, length-replicate {A = ℕ} (13 - x.len) 0))

    pub placed_good : good_place (placed x) ≡ true
    unfolding good_place is_free
    placed_good = rw (placed_used, placed_string, legal_same (normal x) x (normal_is_same x full) ∙ l, zeros_behind) (is_zeros (13 - x.len))

-- in a good used place the string stands in its normal form
pub place_normal : (l : List ℕ) (i : ℕ) → length (row 14 l i) ≡ 14 → good_place (row 14 l i) ≡ true → unused l i ≡ false → normal (place_string (row 14 l i)) ≡ place_string (row 14 l i)
unfolding string_in good_place row_in row_free
place_normal l i long good used =
    let r = row 14 l i in
    let n = (place_string r).len in
    let rest = rw used at good in
    let short = (legal_len (place_string r) (and_left (legal (place_string r)) (zeros (part r (1 + n) (13 - n))) rest)).1 in
    string_normal r 0 (13 - n) (omega arith) short (omega arith) (omega arith) (and_right (legal (place_string r)) (zeros (part r (1 + n) (13 - n))) rest)
