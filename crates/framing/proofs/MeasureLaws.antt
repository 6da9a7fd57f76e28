-- One law for each thing that stands on the line: its refusals in their order, and the content.
use Prim.Native.Nat.{ℕ, ◌-◌, ◌*◌, ◌/◌, ◌%◌, ◌<◌, ◌≤◌}
use native.Mathlib.Omega.{arith}
use mathlib.Core.Path.{◌≡◌, sym, ap, ◌∙◌}
use mathlib.Core.Bool.{Bool, true, false}
use mathlib.Core.List.{List, []}
use lib.Dec.{eqb}
use lib.ListN.{length}
use lib.Seq.{slice}
use borrow.Author.Tests.{lt-ltb, le-ltb, eq-eqb, ne_eqb}
use Rattle.std.specs.Prelude.{Ok, Err}
use Rattle.refusals.specs.declared.Refusal.{Refusal}
use Rattle.refusals.specs.declared.Refusal.TheVariants.{NoFlag, NoWholeBytes, TooFewBytes, DataTooLong, WrongCheck}
use Rattle.refusals.specs.Refusals.{number}
use Rattle.framing.specs.Bits.{to_bits, bytes_for, packed, pack}
use Rattle.framing.specs.Reading.{stopped, scan, opens, scanned, checks, content_refusal, scan_refusal, line_refusal}
use Rattle.framing.specs.Inner.{between, plain, Sums, Weighs, Measures}
use Rattle.framing.specs.declared.take.Summed.{Summed}
use Rattle.framing.specs.declared.runs.Span.{Span}
use Rattle.framing.proofs.BitLaws.{length_packed, bytes_packed}
use Rattle.framing.proofs.GoodLaws.{good_is}

-- ---- the opening flag, and where the scan stopped
module _ (s : List ℕ) (n : ℕ) where
  pub measured_closed : opens s n ≡ false → Measures s n (Err NoFlag)
  unfolding line_refusal scanned scan_refusal
  measured_closed o = rw o

  pub measured_open : opens s n ≡ true → scanned s n ≡ scan 0 [] (slice 8 n (to_bits s))
  unfolding scanned
  measured_open o = rw o

  pub measured_unstopped : opens s n ≡ true → (r : Refusal) → scan_refusal (scan 0 [] (slice 8 n (to_bits s))) ≡ number r → Measures s n (Err r)
  unfolding line_refusal
  measured_unstopped o r e = ap scan_refusal (measured_open o) ∙ e

  pub measured_stopped : (span : Span) → scanned s n ≡ stopped (between span) → (r : Refusal) → content_refusal (plain span) ≡ number r → Measures s n (Err r)
  unfolding line_refusal scan_refusal
  measured_stopped span e r m = rw e m

-- ---- the bits between the flags, and their sum
module _ (span : Span) (r : Summed) (m : Sums (plain span) r) where
  abbrev c : List Bool
  c = plain span

  left_is : length c % 8 ≡ r.left
  left_is = sym m.left

  bytes_is : length c / 8 ≡ r.bytes
  bytes_is = sym m.bytes

  pub weighed_20 : (r.left ≡ 0 → ⊥) → Weighs span (Err NoWholeBytes)
  unfolding content_refusal
  weighed_20 h = rw (left_is, ne_eqb r.left 0 h)

  module _ (z : r.left ≡ 0) where
    pub weighed_21 : r.bytes < 4 → Weighs span (Err TooFewBytes)
    unfolding content_refusal
    weighed_21 h = rw (left_is, eq-eqb r.left 0 z, bytes_is, lt-ltb r.bytes 4 h)

    module _ (four : 4 ≤ r.bytes) where
      pub weighed_17 : 1027 < r.bytes → Weighs span (Err DataTooLong)
      unfolding content_refusal
      weighed_17 h = rw (left_is, eq-eqb r.left 0 z, bytes_is, le-ltb r.bytes 4 four, lt-ltb 1027 r.bytes h)

      module _ (most : r.bytes ≤ 1027) where
        whole : length c ≡ 8 * r.bytes
        whole = omega (arith, left_is, bytes_is, z)

        pack_is : pack c ≡ packed r.bytes c
        unfolding pack bytes_for
        pack_is = ap (λ (k : ℕ). packed k c) (omega (arith, whole))

        good : eqb r.register 0xF0B8 ≡ checks (pack c)
        good =
            ap (λ (f : ℕ). eqb f 0xF0B8) m.register
            ∙ good_is (packed r.bytes c) (bytes_packed r.bytes c) (omega (arith, length_packed r.bytes c))
            ∙ ap checks (sym pack_is)

        pub weighed_22 : (r.register ≡ 0xF0B8 → ⊥) → Weighs span (Err WrongCheck)
        unfolding content_refusal
        weighed_22 h =
            rw (left_is, eq-eqb r.left 0 z, bytes_is, le-ltb r.bytes 4 four, le-ltb 1027 r.bytes most, sym good, ne_eqb r.register 0xF0B8 h)

        pub weighed_content : r.register ≡ 0xF0B8 → Weighs span (Ok (r.bytes - 3))
        unfolding content_refusal
        weighed_content h = record {
          good = rw (left_is, eq-eqb r.left 0 z, bytes_is, le-ltb r.bytes 4 four, le-ltb 1027 r.bytes most, sym good, eq-eqb r.register 0xF0B8 h);
          long = omega (arith, whole);
          least = omega arith;
          most = omega arith;
        }
