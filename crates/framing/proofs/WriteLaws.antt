-- One law for each answer of writing.
use Prim.Native.Nat.{ℕ, ◌+◌, ◌/◌, ◌<◌, ◌≤◌}
use mathlib.Core.Path.{◌≡◌, refl}
use mathlib.Core.Bool.{Bool, true, false, cond, not, ◌&&◌}
use mathlib.Core.List.{List}
use lib.Dec.{leb, ltb}
use lib.ListN.{length}
use borrow.Author.Tests.{lt-ltb, le-ltb, le-leb, leb-true, ne_eqb}
use Rattle.rows.specs.Rows.{over}
use Rattle.rows.proofs.BoolLaws.{and_left, and_right}
use Rattle.framing.specs.Bits.{bytes_for, pack}
use Rattle.framing.specs.Frame.{frame_bits}
use Rattle.framing.specs.Writing.{write_refusal, bits_after, Writes}
use Rattle.std.specs.Prelude.{Ok, Err}
use Rattle.refusals.specs.declared.Refusal.{Refusal}
use Rattle.refusals.specs.declared.Refusal.TheVariants.{DataTooLong, ShortBuffer}
use Rattle.refusals.specs.Refusals.{number}
use Rattle.refusals.proofs.OutcomeLaws.{number_never_0}

refused : (user : ℕ) (d b : List ℕ) (e : Refusal) → write_refusal user d b ≡ number e → Writes user d b (Err e) b
unfolding bits_after
refused user d b r e = record { answer = e; left = rw (e, ne_eqb (number r) 0 (number_never_0 r)) }

pub written_17 : (user : ℕ) (d b : List ℕ) → (1 ≤ length d → length d ≤ 1024 → ⊥) → Writes user d b (Err DataTooLong) b
unfolding write_refusal
written_17 user d b n = refused user d b DataTooLong (outside (leb 1 (length d) && leb (length d) 1024) refl)
  where
    outside : (t : Bool) → (leb 1 (length d) && leb (length d) 1024) ≡ t
        → ◌≡◌ {A = ℕ} (cond (not (leb 1 (length d) && leb (length d) 1024)) 17 (cond (ltb (length b) (bytes_for (length (frame_bits user d)))) 13 0)) 17
    outside false e = rw e
    outside true e = absurd (n (leb-true 1 (length d) (and_left (leb 1 (length d)) (leb (length d) 1024) e)) (leb-true (length d) 1024 (and_right (leb 1 (length d)) (leb (length d) 1024) e)))

module _ (user : ℕ) (d b : List ℕ) where
  pub written_13 : 1 ≤ length d → length d ≤ 1024 → (n : ℕ) → n ≡ length (frame_bits user d) → length b < (n + 7) / 8 → Writes user d b (Err ShortBuffer) b
  unfolding write_refusal bytes_for
  written_13 l g n e h = refused user d b ShortBuffer (rw (le-leb 1 (length d) l, le-leb (length d) 1024 g, lt-ltb _ _ (rw e at h)))

  pub written_bits : (b' : List ℕ) → 1 ≤ length d → length d ≤ 1024 → (n : ℕ) → n ≡ length (frame_bits user d) → (n + 7) / 8 ≤ length b
      → b' ≡ over (pack (frame_bits user d)) b → Writes user d b (Ok n) b'
  unfolding bits_after write_refusal bytes_for
  written_bits b' l g n e h p =
      let fits : ltb (length b) ((length (frame_bits user d) + 7) / 8) ≡ false = le-ltb _ _ (rw e at h) in
      record { answer = (rw (le-leb 1 (length d) l, le-leb (length d) 1024 g, fits), e); left = rw (le-leb 1 (length d) l, le-leb (length d) 1024 g, fits) p }
