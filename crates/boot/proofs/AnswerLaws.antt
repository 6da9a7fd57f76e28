-- The laws of specs/Answers.antt: a case for each way in which a login is answered.
use Rattle.std.specs.Prelude.{Ok, Err}
use Prim.Native.Nat.{ℕ, ◌≤◌, ◌<◌}
use native.Mathlib.Omega.{arith}
use mathlib.Core.Path.{◌≡◌, sym, ap, ◌∙◌}
use mathlib.Core.Bool.{true, false}
use mathlib.Core.List.{List, ◌++◌, append_assoc}
use lib.ListN.{length, take, drop, take-append-drop}
use lib.Seq.{length-take-le}
use Rattle.std.proofs.lemmas.List.{drop-append-le}
use lib.Dec.{ltb}
use borrow.Author.Tests.{lt-ltb, le-ltb, ltb-true}
use Rattle.rows.specs.Rows.{over}
use Rattle.rows.proofs.BoolLaws.{by_test}
use Rattle.rows.proofs.IndexLaws.{found_if, missing_if}
use Rattle.refusals.specs.declared.Refusal.TheVariants.{BadBootTables, ShortBuffer}
use Rattle.boot.specs.declared.Honor.{Honor}
use Rattle.boot.specs.Honors.{flag_of}
use Rattle.boot.specs.Tables.{Tables, all_whole, iobyte, product_number, machine_known, product_known, login_please, user_rows, is_user, user_of, user_known, no_configuration, configuration}
use Rattle.boot.specs.Choice.{Choice, choice_of, chosen_for, chosen, all_there, machine_row, product_row, given, honor}
use Rattle.boot.specs.Block.{boot_block, configuration_of}
use Rattle.boot.specs.Answers.{Honors, booted, boot_refusal, written, boot_answer, block_after, Boots}
use Rattle.boot.specs.Inner.{sent_flag, sent_block, Sends, Answers}
use Rattle.boot.proofs.ChoiceLaws.{le_of_eq, chosen_unknown, chosen_known, drives_unknown, drives_known, chosen_flag}

-- at most 194 bytes p over the first 194 bytes of b, with the rest of b behind, are p over b
block_over : (p b : List ℕ) {q : List ℕ} → length p ≤ 194 → 194 ≤ length b → q ≡ over p (take 194 b) → q ++ drop 194 b ≡ over p b
block_over p b short g e =
    let rest : drop (length p) b ≡ drop (length p) (take 194 b) ++ drop 194 b =
    ap (λ (m : List ℕ). drop (length p) m) (sym (take-append-drop 194 b)) ∙ drop-append-le (length p) (take 194 b) (drop 194 b) (omega (arith, length-take-le 194 b g)) in
    ap (λ (m : List ℕ). m ++ drop 194 b) e ∙ append_assoc p _ _ ∙ ap (λ (m : List ℕ). p ++ m) (sym rest)

-- what is sent to a name and password that are unknown, and to a user
module _ (x : Tables) (m p : ℕ) (name password b : List ℕ) (io : ℕ) {r : ℕ} {b' : List ℕ} where
  pub to_nobody : user_rows x.users ≡ user_of x.users name password → {please : List ℕ} → please ≡ login_please x.products p → Sends x.directory no_configuration io (choice_of 2 please) b r b' → Sends x.directory (configuration_of x name password) io (chosen x m p name password) b r b'
  unfolding user_of user_known
  to_nobody none e done =
      let unknown : user_known x.users name password ≡ false = missing_if (is_user x.users name password) (user_rows x.users) (le_of_eq none) in
      rw (drives_unknown x name password unknown, chosen_unknown x m p name password unknown) (rw e at done)

  pub to_user : {u : ℕ} → (u ≡ user_of x.users name password) × (u < user_rows x.users) → {c : List ℕ} {choice : Choice} → c ≡ configuration x.configurations u → choice ≡ chosen_for x m p u → Sends x.directory c io choice b r b' → Sends x.directory (configuration_of x name password) io (chosen x m p name password) b r b'
  unfolding user_of user_known
  to_user {u} is own chose done =
      let known : user_known x.users name password ≡ true = found_if (is_user x.users name password) (user_rows x.users) (rw is.0 at is.1) in
      rw (drives_known x name password known, chosen_known x m p name password known) (rw (own, chose, is.0) at done)

module _ (x : Tables) (serial name password b : List ℕ) where
  -- no row for the machine, none for its product
  pub no_machine : machine_known x.machines serial ≡ false → Answers x serial name password b 4 b
  unfolding written honor
  no_machine n = record { answer = rw n; left = rw n }

  pub no_product : machine_known x.machines serial ≡ true → product_known x.products (product_number x.machines (machine_row x serial)) ≡ false → Answers x serial name password b 4 b
  unfolding written honor
  no_product y n = record { answer = rw (y, n); left = rw (y, n) }

  -- both are there: what is chosen is sent
  module _ (y : machine_known x.machines serial ≡ true) (z : product_known x.products (product_number x.machines (machine_row x serial)) ≡ true) where
    pub sent : {r : ℕ} {b' : List ℕ} → Sends x.directory (configuration_of x name password) (iobyte x.machines (machine_row x serial)) (given x serial name password) b r b' → Answers x serial name password b r b'
    unfolding written honor boot_block sent_flag sent_block
    sent done = by_test (all_there x.directory (given x serial name password).names)
        (λ t. let low = lt-ltb (given x serial name password).flag 4 (chosen_flag x (machine_row x serial) (product_row x serial) name password) in
        record { answer = done.answer ∙ rw (y, z, t); left = done.left ∙ rw (y, z, t, low) })
        (λ f. record { answer = done.answer ∙ rw (y, z, f); left = done.left ∙ rw (y, z, f) })

  -- 23, 13, or an answer
  pub not_whole : all_whole x ≡ false → Boots x serial name password b (Err BadBootTables) b
  unfolding boot_answer block_after boot_refusal booted
  not_whole n = record { answer = rw n; left = rw n }

  pub too_short : all_whole x ≡ true → length b < 194 → Boots x serial name password b (Err ShortBuffer) b
  unfolding boot_answer block_after boot_refusal booted
  too_short y l = let short = lt-ltb _ _ l in record { answer = rw (y, short); left = rw (y, short) }

  pub answered : all_whole x ≡ true → 194 ≤ length b → (honor x serial name password < 4 → length (boot_block x serial name password) ≡ 194) → (h : Honor) {p : List ℕ} → Answers x serial name password (take 194 b) (flag_of h) p → Boots x serial name password b (Ok h) (p ++ drop 194 b)
  unfolding boot_answer block_after boot_refusal booted written
  answered y g long h done = let fits = le-ltb _ _ g in
      record {
        answer = rw (y, fits) (ap Honors done.answer);
        left = rw (y, fits) (by_test (ltb (honor x serial name password) 4)
            (λ some. rw some (block_over (boot_block x serial name password) b (omega (arith, long (ltb-true _ _ some))) g (rw some at done.left)))
            (λ none. rw none (ap (λ (q : List ℕ). q ++ drop 194 b) (rw none at done.left) ∙ take-append-drop 194 b)));
      }
