-- One law for each answer of reading.
use Prim.Native.Nat.{ℕ, suc, ◌+◌, ◌-◌, ◌<◌, ◌≤◌, min}
use native.Mathlib.Numerals.{add-one}
use native.Mathlib.Omega.{arith}
use mathlib.Core.Path.{◌≡◌, refl, sym, ap, ◌∙◌}
use mathlib.Core.Bool.{Bool, false}
use mathlib.Core.List.{List, ◌++◌}
use lib.Dec.{eqb, leb}
use lib.ListN.{length, take, drop, get_or}
use lib.Seq.{take_all}
use borrow.Author.Tests.{lt-ltb, le-ltb, ne_eqb, leb-true, leb-false}
use Rattle.rows.specs.Rows.{part, over}
use Rattle.rows.proofs.BoolLaws.{by_test}
use Rattle.framing.specs.Bits.{bytes_for, packed, pack}
use Rattle.framing.specs.Reading.{stopped, scanned, scan_refusal, scan_content, content_in, line_refusal, user_in, data_in, data_of, heading_in, put_unless, read_refusal, Reads, ReadsStart}
use Rattle.framing.specs.Inner.{between, plain, Holds}
use Rattle.framing.specs.declared.runs.Span.{Span}
use Rattle.framing.specs.declared.Heading.{Heading}
use Rattle.std.specs.Prelude.{Ok, Err}
use Rattle.refusals.specs.declared.Refusal.{Refusal}
use Rattle.refusals.specs.declared.Refusal.TheVariants.{ShortBuffer}
use Rattle.refusals.specs.Refusals.{number}
use Rattle.refusals.proofs.OutcomeLaws.{number_never_0}
use Rattle.framing.proofs.BitLaws.{length_packed, take_packed}

module _ (s : List ℕ) (n : ℕ) (b : List ℕ) (e : Refusal) (m : line_refusal s n ≡ number e) where
  some : eqb (number e) 0 ≡ false
  some = ne_eqb (number e) 0 (number_never_0 e)

  pub read_refused : Reads s n b (Err e) b
  unfolding read_refusal put_unless
  read_refused = record { answer = rw (m, some); left = rw (m, some, some) }

  pub start_refused : ReadsStart s n b (Err e) b
  unfolding put_unless
  start_refused = record { answer = m; left = rw (m, some) }

-- ---- a content that stands between two places
module _ (s : List ℕ) (n : ℕ) (span : Span) (len : ℕ) (m : (scanned s n ≡ stopped (between span)) × Holds span len) where
  abbrev c : List Bool
  c = plain span

  good_is : line_refusal s n ≡ 0
  unfolding line_refusal scan_refusal
  good_is = rw m.0 m.1.good

  content_is : content_in s n ≡ packed (len + 3) c
  unfolding content_in scan_content pack bytes_for
  content_is = rw m.0 (ap (λ (k : ℕ). packed k c) (omega (arith, m.1.long)))

  user_is : user_in s n ≡ get_or (packed (len + 1) c) 0 0
  unfolding user_in packed
  user_is = rw (content_is, more len 3, add-one len)
    where
      more : (a k : ℕ) → a + 3 ≡ suc (a + 2)
      more a k = omega arith

  data_is : data_in s n ≡ packed len (drop 8 c)
  unfolding data_in data_of part packed
  data_is =
      let long : length (packed (len + 3) c) - 3 ≡ len = omega (arith, length_packed (len + 3) c) in
      ap (λ (l : List ℕ). take (length l - 3) (drop 1 l)) content_is
      ∙ ap (λ (k : ℕ). take k (drop 1 (packed (len + 3) c))) long
      ∙ ap (λ (k : ℕ). take len (drop 1 (packed k c))) more
      ∙ take_packed len (len + 2) (drop 8 c) (omega arith)
    where
      more : len + 3 ≡ suc (len + 2)
      more = omega arith

  data_long : length (data_in s n) ≡ len
  data_long = ap length data_is ∙ length_packed len (drop 8 c)

  -- the first k bytes of the data
  start_is : (k : ℕ) → k ≤ len → take k (data_in s n) ≡ drop 1 (packed (k + 1) c)
  unfolding packed
  start_is k l = ap (take k) data_is ∙ take_packed k len (drop 8 c) l ∙ sym (ap (λ (j : ℕ). drop 1 (packed j c)) (add-one k))

  start_long : (k : ℕ) → length (drop 1 (packed (k + 1) c)) ≡ k
  unfolding packed
  start_long k = ap (λ (j : ℕ). length (drop 1 (packed j c))) (add-one k) ∙ length_packed k (drop 8 c)

  heading : (user : ℕ) → user ≡ user_in s n → ◌≡◌ {A = Heading} (record { user = user; length = len }) (heading_in s n)
  unfolding heading_in
  heading user e = rw (e, data_long)

  module _ (b : List ℕ) where
    pub read_13 : length b < len → Reads s n b (Err ShortBuffer) b
    unfolding read_refusal put_unless
    read_13 l = rw (good_is, data_long, lt-ltb (length b) len l) (record { answer = refl; left = refl })

    pub read_data : len ≤ length b → (user : ℕ) (b' : List ℕ) → user ≡ get_or (packed (len + 1) c) 0 0 → b' ≡ drop 1 (packed (len + 1) c) ++ drop len b
        → Reads s n b (Ok (record { user = user; length = len })) b'
    unfolding read_refusal put_unless
    read_data l user b' e f =
        let all : data_in s n ≡ drop 1 (packed (len + 1) c) = sym (take_all len (data_in s n) (omega (arith, data_long))) ∙ start_is len (omega arith) in
        let fits = le-ltb (length b) len l in
        record {
          answer = (rw (good_is, data_long, fits), heading user (e ∙ sym user_is));
          left = rw (good_is, data_long, fits) (f ∙ ap (λ (p : List ℕ). p ++ drop len b) (sym all));
        }

    pub read_start : (k user : ℕ) (b' : List ℕ) → k ≡ min len (length b) → user ≡ get_or (packed (k + 1) c) 0 0 → b' ≡ drop 1 (packed (k + 1) c) ++ drop k b
        → ReadsStart s n b (Ok (record { user = user; length = len })) b'
    unfolding put_unless packed
    read_start k user b' m e f = record {
      answer = (good_is, heading user (e ∙ ap (λ (j : ℕ). get_or (packed j c) 0 0) (add-one k) ∙ sym (user_is ∙ ap (λ (j : ℕ). get_or (packed j c) 0 0) (add-one len))));
      left = rw good_is (f ∙ sym (ap (λ (p : List ℕ). over p b) front ∙ ap (λ (j : ℕ). drop 1 (packed (k + 1) c) ++ drop j b) (start_long k)));
    }
      where
        front : take (length b) (data_in s n) ≡ drop 1 (packed (k + 1) c)
        front = by_test (leb (length b) len)
            (λ t. ap (λ (j : ℕ). take j (data_in s n)) (small (leb-true (length b) len t)) ∙ start_is k (omega arith))
            (λ g. take_all (length b) (data_in s n) (omega (arith, data_long, leb-false (length b) len g)) ∙ sym (take_all k (data_in s n) (omega (arith, data_long, leb-false (length b) len g))) ∙ start_is k (omega arith))
          where
            small : length b ≤ len → length b ≡ k
            small l = omega arith
