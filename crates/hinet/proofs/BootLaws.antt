-- What the C program can rely on of the entry that chooses the system of a login.
use Prim.Native.Nat.{ℕ, ◌<◌}
use native.Mathlib.Omega.{arith}
use mathlib.Core.Path.{◌≡◌, ◌∙◌}
use mathlib.Core.List.{List, ◌++◌}
use lib.Dec.{eqb}
use lib.ListN.{drop}
use borrow.Author.Tests.{ne_eqb}
use Rattle.rows.proofs.BoolLaws.{by_test, by_eq}
use Rattle.boot.specs.Tables.{Tables}
use Rattle.boot.specs.Choice.{honor}
use Rattle.boot.specs.Block.{boot_block}
use Rattle.boot.specs.Answers.{boot_refusal, boot_answer, block_after}
use Rattle.boot.proofs.Theorems.{honor_most, refusal_small, answered_after}
use Rattle.master.specs.Answers.{answers, honor_flag, answers_unless}
use Rattle.hinet.specs.Packing.{word, refusal_in, told_in}
use Rattle.hinet.specs.BootEntries.{SystemChosen, booted_told}
use Rattle.hinet.proofs.PackLaws.{choice_tells, refused_choice}

-- what the library answers, as a choice
pub booted_choice : (x : Tables) (serial name password b : List ℕ) → booted_told (boot_answer x serial name password b) ≡ answers_unless (boot_refusal x b) (honor_flag (honor x serial name password))
unfolding boot_answer booted_told
booted_choice x serial name password b = by_test (eqb (boot_refusal x b) 0) (λ t. rw t) (λ f. rw f)

module _ (x : Tables) (serial name password b : List ℕ) (r : ℕ) (b' : List ℕ) (done : SystemChosen x serial name password b r b') where
  flag_fits : honor x serial name password < 256
  flag_fits = omega (arith, honor_most x serial name password)

  -- the word, taken apart, tells the honor flag or the refusal
  pub boot_word_tells : told_in r ≡ answers_unless (boot_refusal x b) (honor_flag (honor x serial name password))
  boot_word_tells = choice_tells (boot_refusal x b) (refusal_small x b) (honor_flag (honor x serial name password)) flag_fits r done.answer

  -- a refused call is its number alone, and leaves the buffer as it was
  pub refused_boot_untouched : (refusal_in r ≡ 0 → ⊥) → (r ≡ refusal_in r) × (r ≡ boot_refusal x b) × (b' ≡ b)
  unfolding block_after
  refused_boot_untouched ne =
      let told = refused_choice (boot_refusal x b) (refusal_small x b) (honor_flag (honor x serial name password)) flag_fits r done.answer ne in
      (told.0, told.1, done.left ∙ rw told.2)

  accepted : refusal_in r ≡ 0 → boot_refusal x b ≡ 0
  unfolding refusal_in word
  accepted z = by_eq (boot_refusal x b) 0 (λ e. e)
      (λ ne. let is : r ≡ boot_refusal x b = done.answer ∙ rw (ne_eqb (boot_refusal x b) 0 ne) in absurd (ne (omega (arith, refusal_small x b))))

  -- any other tells its flag: 4 leaves the buffer as it was, 0 to 3 the 194 bytes of the block and then the bytes that stood there
  pub boot_answered : refusal_in r ≡ 0 → (r ≡ word (answers (honor_flag (honor x serial name password)))) × (honor x serial name password ≡ 4 → b' ≡ b) × (honor x serial name password < 4 → b' ≡ boot_block x serial name password ++ drop 194 b)
  boot_answered z =
      let e = accepted z in
      let after = answered_after x serial name password b e done.left in
      (done.answer ∙ rw e, after.0, after.1)
