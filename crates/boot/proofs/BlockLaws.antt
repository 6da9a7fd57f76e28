-- The laws of specs/Block.antt: the entries of names that are all there, and how a block is put together.
use Rattle.std.specs.Prelude.{Option, Some, None, is_some}
use Prim.Native.Nat.{ℕ, ◌+◌, ◌-◌, ◌*◌, ◌/◌, ◌≤◌, ◌<◌}
use native.Mathlib.Omega.{arith}
use mathlib.Core.Path.{◌≡◌, refl, sym, ap, subst, ◌∙◌}
use mathlib.Core.Bool.{Bool, true, false, not}
use mathlib.Core.List.{List, [], ◌∷◌, ◌++◌, append_assoc, append-nil}
use lib.ListN.{length, set, drop, replicate, length-append, length-replicate, drop_of_length-le}
use Rattle.rows.specs.Rows.{part, put, over, join}
use Rattle.rows.proofs.IndexLaws.{all_at}
use Rattle.rows.proofs.BuildLaws.{drop_zeros}
use Rattle.rows.proofs.RowLaws.{length_part, length_join, over_first, over_next, over_set}
use Rattle.rows.specs.Outcomes.{Finds}
use Rattle.rows.proofs.OutcomeLaws.{finds_some}
use Rattle.directory.specs.Directory.{files, file_entry, file_named, file_of, in_directory}
use Rattle.directory.proofs.FileLaws.{there_at, length_entry}
use Rattle.boot.specs.Choice.{choice_of, name_of, all_there}
use Rattle.boot.specs.Block.{load_entry, load_entries, block_of}

-- of names that are all there, name k is a file's, and its entry has 16 bytes
module _ (dir names : List ℕ) (there : all_there dir names ≡ true) (k : ℕ) (l : k < length names / 8) where
  pub name_file : file_of dir (name_of names k) < files dir
  unfolding all_there
  name_file = there_at dir (name_of names k) (all_at (λ j. in_directory dir (name_of names j)) (length names / 8) k there l)

  pub entry_long : length (load_entry dir names k) ≡ 16
  unfolding load_entry
  entry_long = length_entry dir (file_of dir (name_of names k)) name_file

-- a name's file, by the test for none
named : (dir name : List ℕ) (r : Option ℕ) → Finds (files dir) (file_of dir name) r → is_some r ≡ in_directory dir name
unfolding file_of in_directory
named dir name r h = finds_some (file_named dir name) (files dir) r h

module _ (dir name : List ℕ) (r : Option ℕ) (h : Finds (files dir) (file_of dir name) r) where
  pub file_missing : (none : Bool) → is_some r ≡ not none → none ≡ true → in_directory dir name ≡ false
  file_missing none is e = sym (named dir name r h) ∙ is ∙ ap not e

  pub file_there : (none : Bool) → is_some r ≡ not none → none ≡ false → in_directory dir name ≡ true
  file_there none is e = sym (named dir name r h) ∙ is ∙ ap not e

-- a search that finds something, and what it found
pub finds_there : (n i : ℕ) (r : Option ℕ) → Finds n i r → i < n → is_some r ≡ true
finds_there n i (Some k) h l = refl
finds_there n i None h l = absurd (omega (arith, h))

pub finds_is : (n i : ℕ) (r : Option ℕ) (k : ℕ) → Finds n i r → r ≡ Some k → k ≡ i
finds_is n i r k h e = let at = subst (Finds n i) e h in at.0

pub entry_is : (dir names : List ℕ) (k : ℕ) {file : ℕ} {e : List ℕ} → file ≡ file_of dir (name_of names k) → e ≡ file_entry dir file → e ≡ load_entry dir names k
unfolding load_entry
entry_is dir names k is e = e ∙ ap (file_entry dir) is

-- drives, IOBYTE, type-ahead, flag and entries put down one after the other over zeros
block_laid : (drives ahead entries : List ℕ) (io flag : ℕ) → length drives ≡ 32 → length ahead ≡ 32 → length entries ≤ 128
    → put (set (put (set (put (replicate 194 0) 0 drives) 32 io) 33 ahead) 65 flag) 66 entries ≡ drives ++ (io ∷ (ahead ++ (flag ∷ (entries ++ replicate (128 - length entries) 0))))
block_laid drives ahead entries io flag d a e =
    let z : List ℕ = replicate 194 0 in
    let whole : length z ≡ 194 = length-replicate {A = ℕ} 194 0 in
    let p₁ : List ℕ = drives ++ (io ∷ []) in
    let p₂ : List ℕ = p₁ ++ ahead in
    let p₃ : List ℕ = p₂ ++ (flag ∷ []) in
    let n₁ : length p₁ ≡ 33 = length-append drives (io ∷ []) ∙ omega arith in
    let n₂ : length p₂ ≡ 65 = length-append p₁ ahead ∙ omega arith in
    let n₃ : length p₃ ≡ 66 = length-append p₂ (flag ∷ []) ∙ omega arith in
    let n₄ : length (p₃ ++ entries) ≡ 66 + length entries = length-append p₃ entries ∙ omega arith in
    let rest : 194 - length (p₃ ++ entries) ≡ 128 - length entries = omega arith in
    ap (λ (q : List ℕ). put (set (put (set q 32 io) 33 ahead) 65 flag) 66 entries) (over_first z drives)
    ∙ ap (λ (q : List ℕ). put (set (put q 33 ahead) 65 flag) 66 entries) (over_set z drives 32 io d (omega arith))
    ∙ ap (λ (q : List ℕ). put (set q 65 flag) 66 entries) (over_next z p₁ ahead 33 n₁ (omega arith))
    ∙ ap (λ (q : List ℕ). put q 66 entries) (over_set z p₂ 65 flag n₂ (omega arith))
    ∙ over_next z p₃ entries 66 n₃ (omega arith)
    ∙ ap (λ (q : List ℕ). (p₃ ++ entries) ++ q) (drop_zeros 194 (length (p₃ ++ entries)) (omega arith) ∙ ap (λ (k : ℕ). replicate k 0) rest)
    ∙ append_assoc p₃ entries (replicate (128 - length entries) 0)
    ∙ append_assoc p₂ (flag ∷ []) (entries ++ replicate (128 - length entries) 0)
    ∙ append_assoc p₁ ahead (flag ∷ (entries ++ replicate (128 - length entries) 0))
    ∙ append_assoc drives (io ∷ []) (ahead ++ (flag ∷ (entries ++ replicate (128 - length entries) 0)))

-- so a block is made of a configuration and of names that are all there
pub block_made : (dir c names : List ℕ) (io flag : ℕ) → length c ≡ 64 → length names ≤ 64 → all_there dir names ≡ true → put (set (put (set (put (replicate 194 0) 0 (part c 0 32)) 32 io) 33 (part c 32 32)) 65 flag) 66 (join (load_entry dir names) (length names / 8)) ≡ block_of dir c io (choice_of flag names)
unfolding block_of load_entries
block_made dir c names io flag long most there =
    let n = length names / 8 in
    let entries = join (load_entry dir names) n in
    let full : length entries ≡ 16 * n = length_join 16 (load_entry dir names) n (λ k l. entry_long dir names there k l) in
    block_laid (part c 0 32) (part c 32 32) entries io flag (length_part c 0 32 (omega arith)) (length_part c 32 32 (omega arith)) (omega (arith, full))
    ∙ ap (λ (k : ℕ). part c 0 32 ++ (io ∷ (part c 32 32 ++ (flag ∷ (entries ++ replicate (128 - k) 0))))) full

-- a block put down whole is over what was there
pub whole_over : (b : List ℕ) {p q : List ℕ} → length q ≡ length b → q ≡ p → q ≡ over p b
whole_over b {p} long e =
    let none : drop (length p) b ≡ [] = drop_of_length-le b (omega (arith, ap length e, long)) in
    e ∙ sym (append-nil p) ∙ ap (λ (r : List ℕ). p ++ r) (sym none)
