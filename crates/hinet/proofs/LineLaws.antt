-- What the C program can rely on of the entries of the line.
use Prim.Native.Nat.{ℕ, ◌≤◌, ◌<◌}
use native.Mathlib.Omega.{arith}
use mathlib.Core.Path.{◌≡◌, refl, sym, ap, ◌∙◌}
use mathlib.Core.Bool.{false}
use mathlib.Core.List.{List}
use lib.Dec.{eqb}
use lib.ListN.{length}
use borrow.Author.Tests.{ne_eqb}
use Rattle.rows.proofs.BoolLaws.{by_test, by_eq}
use Rattle.rows.proofs.NumberLaws.{Bytes}
use Rattle.framing.specs.Frame.{frame_bits}
use Rattle.framing.specs.Writing.{write_refusal, bits_after}
use Rattle.framing.specs.Reading.{line_refusal, user_in, data_in, read_refusal, put_unless}
use Rattle.framing.proofs.Theorems.{longest, write_sized, write_small, read_ranges, read_good, read_small, line_small}
use Rattle.master.specs.Answers.{answers, refusal_number, Answered, no_bytes, bits_of, line_of, answers_unless}
use Rattle.master.specs.Effects.{unless}
use Rattle.master.specs.Line.{line_effect, heard_effect}
use Rattle.hinet.specs.Packing.{word, refusal_in, told_in}
use Rattle.hinet.specs.LineEntries.{LineWrites, LineReads, LineServed}
use Rattle.hinet.proofs.PackLaws.{Tellable, choice_tells, refused_choice}
use Rattle.hinet.proofs.TellLaws.{frame_fits}
use Rattle.hinet.proofs.EntryLaws.{word_tells, untouched, frame_keeps}

-- an entry with one refusal, whose answer fits where it is not refused
module _ (k : ℕ) (small : k < 256) (a : Answered) (fits : k ≡ 0 → Tellable (answers a)) (r : ℕ) (e : r ≡ word (answers_unless k a)) where
  other : (k ≡ 0 → ⊥) → answers_unless k a ≡ answers_unless k no_bytes
  other ne = rw (ne_eqb k 0 ne)

  tells : told_in r ≡ answers_unless k a
  tells = by_eq k 0
      (λ z. choice_tells k small a (fits z) r e)
      (λ ne. choice_tells k small no_bytes tt r (e ∙ ap word (other ne)) ∙ sym (other ne))

  refused : (refusal_in r ≡ 0 → ⊥) → (r ≡ refusal_in r) × (r ≡ k) × (eqb k 0 ≡ false)
  refused ne = by_eq k 0
      (λ z. refused_choice k small a (fits z) r e ne)
      (λ nz. refused_choice k small no_bytes tt r (e ∙ ap word (other nz)) ne)

-- writing: the word tells the bits or the refusal, and a refused call leaves the buffer as it was
module _ (user : ℕ) (d b : List ℕ) (r : ℕ) (b' : List ℕ) (done : LineWrites user d b r b') where
  bits_fit : write_refusal user d b ≡ 0 → Tellable (answers (bits_of (length (frame_bits user d))))
  bits_fit z = omega (arith, longest user d (write_sized user d b z).1)

  pub line_write_tells : told_in r ≡ answers_unless (write_refusal user d b) (bits_of (length (frame_bits user d)))
  line_write_tells = tells (write_refusal user d b) (omega (arith, write_small user d b)) _ bits_fit r done.answer

  pub refused_line_write_untouched : (refusal_in r ≡ 0 → ⊥) → (r ≡ refusal_in r) × (r ≡ write_refusal user d b) × (b' ≡ b)
  unfolding bits_after
  refused_line_write_untouched ne =
      let told = refused (write_refusal user d b) (omega (arith, write_small user d b)) _ bits_fit r done.answer ne in
      (told.0, told.1, done.left ∙ rw told.2)

-- reading: the word tells user number and length or the refusal, and a refused call leaves the buffer as it was
module _ (s : List ℕ) (n : ℕ) (b : List ℕ) (r : ℕ) (b' : List ℕ) (done : LineReads s n b r b') where
  line_fit : read_refusal s n b ≡ 0 → Tellable (answers (line_of (user_in s n) (length (data_in s n))))
  line_fit z = let range = read_ranges s n (read_good s n b z) in (range.0, omega (arith, range.3))

  pub line_read_tells : told_in r ≡ answers_unless (read_refusal s n b) (line_of (user_in s n) (length (data_in s n)))
  line_read_tells = tells (read_refusal s n b) (omega (arith, read_small s n b)) _ line_fit r done.answer

  pub refused_line_read_untouched : (refusal_in r ≡ 0 → ⊥) → (r ≡ refusal_in r) × (r ≡ read_refusal s n b) × (b' ≡ b)
  unfolding put_unless
  refused_line_read_untouched ne =
      let told = refused (read_refusal s n b) (omega (arith, read_small s n b)) _ line_fit r done.answer ne in
      (told.0, told.1, done.left ∙ rw told.2)

-- a frame from the line: the word tells what the master tells, and a refused call leaves both tables as they were
module _ (p : ℕ) (s : List ℕ) (n : ℕ) (x t w : List ℕ) where
  line_fits : Bytes x → Tellable (line_effect p s n x t w).tells
  unfolding line_effect unless heard_effect
  line_fits site = by_eq (line_refusal s n) 0
      (λ z. let range = read_ranges s n z in rw z (by_test (eqb (user_in s n) 0)
      (λ y. rw y (frame_fits p (data_in s n) x t w range.1 site))
      (λ m. rw m (range.0, omega (arith, range.3)))))
      (λ ne. rw (ne_eqb (line_refusal s n) 0 ne) (some ne, omega (arith, line_small s n)))
    where
      some : (line_refusal s n ≡ 0 → ⊥) → 1 ≤ line_refusal s n
      some ne = omega arith

  line_keeps : (refusal_number (line_effect p s n x t w).tells ≡ 0 → ⊥) → ((line_effect p s n x t w).locks ≡ t) × ((line_effect p s n x t w).records ≡ w)
  unfolding line_effect unless heard_effect
  line_keeps ne = by_eq (line_refusal s n) 0
      (λ z. by_test (eqb (user_in s n) 0)
      (λ y. rw (z, y) (frame_keeps p (data_in s n) x t w (rw (z, y) at ne)))
      (λ m. rw (z, m) (refl, refl)))
      (λ nz. rw (ne_eqb (line_refusal s n) 0 nz) (refl, refl))

  module _ (site : Bytes x) (r : ℕ) (t' w' : List ℕ) (done : LineServed p s n x t w r t' w') where
    pub line_frame_tells : told_in r ≡ (line_effect p s n x t w).tells
    line_frame_tells = word_tells (line_effect p s n x t w) (line_fits site) r t' w' done

    pub refused_line_frame_untouched : (refusal_in r ≡ 0 → ⊥) → ((refusal_in r ≡ 10 → ⊥) → r ≡ refusal_in r) × (t' ≡ t) × (w' ≡ w)
    refused_line_frame_untouched = untouched (line_effect p s n x t w) (line_fits site) r t' w' done t w line_keeps
