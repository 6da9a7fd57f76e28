-- The laws of a scan that goes over whole bytes without a sixth one.
use Prim.Native.Nat.{ℕ, ◌+◌, ◌*◌, ◌/◌, ◌%◌, ◌≤◌}
use native.Mathlib.Omega.{arith}
use mathlib.Core.Path.{◌≡◌, sym, ap, ◌∙◌}
use mathlib.Core.Bool.{Bool}
use mathlib.Core.List.{List, ◌++◌, append_assoc}
use lib.ListN.{length, get_or}
use lib.Seq.{slice}
use Rattle.framing.specs.Bits.{bits_of, to_bits}
use Rattle.framing.specs.Reading.{scan}
use Rattle.framing.specs.Inner.{TakenOut, Passes}
use Rattle.framing.specs.declared.runs.Taken.{Taken}
use Rattle.framing.specs.declared.runs.Passed.{Passed}
use Rattle.framing.proofs.BitLaws.{length_to_bits}
use Rattle.framing.proofs.ZeroLaws.{run_le}
use Rattle.framing.proofs.TakeLaws.{slice_join, byte_first, byte_slice}
use Rattle.framing.proofs.ScanLaws.{scan_quiet, Scanning}

-- so far: the scan stands at `at`, after so many ones
abbrev pub Quiet : List Bool → ℕ → ℕ → ℕ → ℕ → Type 0
Quiet b n from at ones = Passes b n from (record { at = at; ones = ones })

pub quiet_more : (s : List ℕ) (n from at ones : ℕ) (z : Taken) → n ≤ 8 * length s → Quiet (to_bits s) n from at ones → at % 8 ≡ 0 → at + 8 ≤ n
    → TakenOut ones (bits_of 8 (get_or s (at / 8) 0)) z → z.sixths ≡ 0 → Quiet (to_bits s) n from (at + 8) z.ones
quiet_more s n from at ones z w q e l o six =
    let b : List Bool = to_bits s in
    let byte : List Bool = bits_of 8 (get_or s (at / 8) 0) in
    let grown : slice from (at + 8) b ≡ slice from at b ++ byte =
    slice_join from at (at + 8) b q.order (omega arith) (omega (arith, length_to_bits s)) ∙ ap (λ (x : List Bool). slice from at b ++ x) (byte_slice s at e (omega arith)) in
    record {
      order = omega (arith, q.order);
      inside = l;
      few = rw o.ones (run_le byte ones q.few);
      rest = λ since.
          q.rest since
          ∙ ap (scan ones (since ++ slice from at b)) (byte_first s at n e l w)
          ∙ scan_quiet byte ones (since ++ slice from at b) (slice (at + 8) n b) q.few (sym o.sixths ∙ six)
          ∙ ap (λ (k : ℕ). scan k ((since ++ slice from at b) ++ byte) (slice (at + 8) n b)) (sym o.ones)
          ∙ ap (λ (x : List Bool). scan z.ones x (slice (at + 8) n b)) (append_assoc since (slice from at b) byte ∙ ap (λ (x : List Bool). since ++ x) (sym grown));
    }

-- a search that stands after a zero goes on where a quiet scan has led
pub scan_passed : (b : List Bool) (n from at : ℕ) (r : Passed) → n ≤ length b → Scanning b n from at 0 → Passes b n at r → Scanning b n from r.at r.ones
scan_passed b n from at r w s p = record {
  order = omega (arith, s.order, p.order);
  inside = p.inside;
  opened = s.opened;
  few = omega (arith, p.few);
  rest =
      ap (λ (q : List Bool). scan r.ones q (slice r.at n b)) (slice_join from at r.at b s.order p.order (omega (arith, s.inside)))
      ∙ sym (p.rest (slice from at b))
      ∙ s.rest;
}
