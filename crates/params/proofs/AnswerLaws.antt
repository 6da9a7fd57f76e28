-- Writing a block: 16, then 13; what is refused changes nothing, and what is written reads back as the record.
use Prim.Native.Nat.{ℕ, ◌≤◌, ◌<◌}
use native.Mathlib.Omega.{arith}
use mathlib.Core.Path.{◌≡◌, refl, sym, ◌∙◌}
use mathlib.Core.Bool.{true}
use mathlib.Core.List.{List, ◌++◌}
use lib.Dec.{ltb}
use lib.ListN.{length, drop}
use borrow.Author.Tests.{lt-ltb, le-ltb, ltb-false, ne_eqb}
use Rattle.refusals.specs.declared.Refusal.{Refusal}
use Rattle.refusals.specs.Refusals.{number}
use Rattle.refusals.proofs.OutcomeLaws.{number_never_0}
use Rattle.rows.specs.Rows.{put}
use Rattle.rows.proofs.RowLaws.{over_first}
use Rattle.rows.proofs.BoolLaws.{by_test}
use Rattle.params.specs.declared.System.{System}
use Rattle.params.specs.Tables.{sized}
use Rattle.params.specs.Blocks.{block_bytes, ReadsAs}
use Rattle.params.specs.Answers.{size_refusal, room_refusal, write_refusal, Puts, buffer_after, Writes}
use Rattle.params.proofs.FigureLaws.{block_long, block_reads}

-- a number that is no size code; a size code with a buffer that is too short, and with one that is not
module _ (n : ℕ) (block b : List ℕ) where
  pub puts_not_sized : (r : Refusal) → size_refusal n ≡ number r → Puts (write_refusal n b) block b (number r) b
  unfolding size_refusal write_refusal
  puts_not_sized r e = by_test (sized n)
      (λ code. absurd (number_never_0 r (sym (rw code at e))))
      (λ none. rw none (record { answer = sym (rw none at e); left = refl }))

  sized_if : size_refusal n ≡ 0 → sized n ≡ true
  unfolding size_refusal
  sized_if z = by_test (sized n) (λ code. code) (λ none. let bad = rw none at z in absurd (omega arith))

  pub puts_short : size_refusal n ≡ 0 → length b < 15 → Puts (write_refusal n b) block b 13 b
  unfolding write_refusal room_refusal
  puts_short z short = rw (sized_if z, lt-ltb (length b) 15 short) (record { answer = refl; left = refl })

  pub puts_whole : size_refusal n ≡ 0 → 15 ≤ length b → {b' : List ℕ} → b' ≡ put b 0 block → Puts (write_refusal n b) block b 0 b'
  unfolding write_refusal room_refusal
  puts_whole z long is = rw (sized_if z, le-ltb (length b) 15 long) (record { answer = refl; left = is ∙ over_first b block })

-- k is the refusal, 0 for none: a block that is refused changes nothing
pub refused_untouched : (k : ℕ) (block b : List ℕ) {r : ℕ} {b' : List ℕ} → Puts k block b r b' → (r ≡ 0 → ⊥) → b' ≡ b
refused_untouched k block b done ne = done.left ∙ rw (ne_eqb k 0 (λ z. ne (done.answer ∙ z)))

-- what is not refused: a size code, with a buffer of 15 bytes or more
pub accepted_is : (n : ℕ) (b : List ℕ) → write_refusal n b ≡ 0 → (sized n ≡ true) × (15 ≤ length b)
unfolding write_refusal room_refusal
accepted_is n b z = by_test (sized n)
    (λ code. by_test (ltb (length b) 15)
    (λ y. let bad = rw (code, y) at z in absurd (omega arith))
    (λ m. (code, ltb-false _ _ m)))
    (λ none. let bad = rw none at z in absurd (omega arith))

-- it leaves the 15 bytes of the block, which read back as its record, and then the bytes that stood there
module _ (system : System) (n : ℕ) (b : List ℕ) {b' : List ℕ} where
  pub left_is : write_refusal n b ≡ 0 → b' ≡ buffer_after system n b → b' ≡ block_bytes system n ++ drop 15 b
  left_is z e = e ∙ rw (z, block_long system n)

  pub left_reads : write_refusal n b ≡ 0 → b' ≡ buffer_after system n b → ReadsAs system n b'
  left_reads z e = rw (left_is z e) (block_reads system n (accepted_is n b z).0 (drop 15 b))

module _ (system : System) (n : ℕ) (b : List ℕ) {r : ℕ} {b' : List ℕ} (done : Writes system n b r b') (ok : r ≡ 0) where
  pub written_is : (sized n ≡ true) × (15 ≤ length b) × (b' ≡ block_bytes system n ++ drop 15 b)
  written_is =
      let z = sym done.answer ∙ ok in
      let taken = accepted_is n b z in
      (taken.0, taken.1, left_is system n b z done.left)

  pub reads_back : ReadsAs system n b'
  reads_back = left_reads system n b (sym done.answer ∙ ok) done.left
