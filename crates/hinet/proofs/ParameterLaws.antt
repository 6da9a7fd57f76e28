-- What the C program can rely on of the entries that write disk parameters.
use Prim.Native.Nat.{ℕ, ◌≤◌, ◌<◌}
use native.Mathlib.Omega.{arith}
use mathlib.Core.Path.{◌≡◌, sym, ◌∙◌}
use mathlib.Core.Bool.{true, not, ◌||◌}
use mathlib.Core.List.{List, ◌++◌}
use mathlib.Core.Logic.{◌⊎◌, inl, inr}
use lib.Dec.{ltb}
use lib.ListN.{length, drop}
use borrow.Author.Tests.{ne_eqb, ltb-true}
use Rattle.rows.proofs.BoolLaws.{by_test, by_eq, and_left, either}
use Rattle.rows.specs.Words.{same, zeros}
use Rattle.frames.specs.declared.Request.{Request}
use Rattle.site.specs.Layout.{partitions, partition_row, partition_password}
use Rattle.site.specs.Rules.{good_site}
use Rattle.site.specs.Found.{index_of_name}
use Rattle.params.specs.declared.System.{System}
use Rattle.params.specs.Tables.{sized}
use Rattle.params.specs.Blocks.{block_bytes, ReadsAs}
use Rattle.params.specs.Answers.{room_refusal, write_refusal}
use Rattle.params.proofs.AnswerLaws.{accepted_is, left_is, left_reads}
use Rattle.params.proofs.FigureLaws.{partition_sized}
use Rattle.master.specs.Answers.{answers, assign_bytes, frame_made}
use Rattle.master.specs.Frames.{row_answer, assignable, assign_answer}
use Rattle.hinet.specs.Packing.{word, refusal_in, told_in}
use Rattle.hinet.specs.FrameEntries.{frame_told}
use Rattle.hinet.specs.ParameterEntries.{Parameters}
use Rattle.hinet.proofs.PackLaws.{choice_tells, refused_choice}

module _ (system : System) (n : ℕ) (b : List ℕ) (r : ℕ) (b' : List ℕ) (done : Parameters system n b r b') where
  refusal_small : write_refusal n b < 256
  unfolding write_refusal room_refusal
  refusal_small = either (not (sized n)) 16 _ (omega arith) (either (ltb (length b) 15) 13 0 (omega arith) (omega arith))

  -- the word, taken apart, tells 15 bytes written, or the refusal
  pub parameters_word_tells : told_in r ≡ frame_told (write_refusal n b) 15
  parameters_word_tells = choice_tells (write_refusal n b) refusal_small (frame_made 15) (omega arith) r done.answer

  -- a refused call is its number alone, and leaves the buffer as it was
  pub refused_parameters_untouched : (refusal_in r ≡ 0 → ⊥) → (r ≡ refusal_in r) × (r ≡ write_refusal n b) × (b' ≡ b)
  refused_parameters_untouched ne =
      let told = refused_choice (write_refusal n b) refusal_small (frame_made 15) (omega arith) r done.answer ne in
      (told.0, told.1, done.left ∙ rw told.2)

  accepted : refusal_in r ≡ 0 → write_refusal n b ≡ 0
  unfolding refusal_in word
  accepted z = by_eq (write_refusal n b) 0 (λ e. e)
      (λ ne. let is : r ≡ write_refusal n b = done.answer ∙ rw (ne_eqb (write_refusal n b) 0 ne) in absurd (ne (omega (arith, refusal_small))))

  -- any other has a size code and room for 15 bytes; it leaves the 15 bytes of the block, and then the bytes that stood there
  pub parameters_written : refusal_in r ≡ 0 → (sized n ≡ true) × (15 ≤ length b) × (r ≡ word (answers (frame_made 15))) × (b' ≡ block_bytes system n ++ drop 15 b)
  parameters_written z =
      let e = accepted z in
      let taken = accepted_is n b e in
      (taken.0, taken.1, done.answer ∙ rw e, left_is system n b e done.left)

  -- they read back as the record
  pub parameters_read_back : refusal_in r ≡ 0 → ReadsAs system n b'
  parameters_read_back z = left_reads system n b (accepted z) done.left

-- the size that an assign tells is FF, where it is denied, or a size code, which is never refused with 16
pub assigned_sized : (q : Request) (s : List ℕ) → good_site s ≡ true → {size partition control volume : ℕ} → assign_answer q s ≡ answers (assign_bytes size partition control volume) → (size ≡ 0xFF) ⊎ (sized size ≡ true)
unfolding assign_answer row_answer assignable
assigned_sized q s good {size} tells = by_test (assignable q s)
    (λ granted.
    let i = index_of_name s q.name in
    let there = ltb-true i (partitions s) (and_left (ltb i (partitions s)) (zeros q.password || same (partition_password s i) q.password) granted) in
    let row = rw granted at tells in
    let same_size : (partition_row s i).size ≡ size = cc in
    inr (rw same_size at (partition_sized s good i there)))
    (λ denied.
    let none = rw denied at tells in
    let full : 0xFF ≡ size = cc in
    inl (sym full))
