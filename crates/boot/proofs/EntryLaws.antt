-- What stands in a block, part by part: 194 bytes, and a load entry for each name in its order, then zeros.
use Prim.Native.Nat.{ℕ, ◌-◌, ◌*◌, ◌/◌, ◌≤◌, ◌<◌}
use native.Mathlib.Omega.{arith}
use mathlib.Core.Path.{◌≡◌, refl, ap, ◌∙◌}
use mathlib.Core.Bool.{true}
use mathlib.Core.List.{List, [], ◌∷◌, ◌++◌}
use lib.ListN.{length, replicate, length-append, length-replicate}
use Rattle.rows.specs.Rows.{part, row, join}
use Rattle.rows.proofs.BuildLaws.{drop_zeros, take_zeros}
use Rattle.rows.proofs.RowLaws.{row_end, length_part, length_join, row_join, part_mid, part_end, part_append, part_right}
use Rattle.boot.specs.Choice.{Choice, all_there}
use Rattle.boot.specs.Block.{load_entry, load_entries, block_of}
use Rattle.boot.proofs.BlockLaws.{entry_long}

-- ---- the load entries of names that are all there, eight at most

module _ (dir names : List ℕ) (most : length names ≤ 64) (there : all_there dir names ≡ true) where
  joined_long : length (join (load_entry dir names) (length names / 8)) ≡ 16 * (length names / 8)
  joined_long = length_join 16 (load_entry dir names) (length names / 8) (λ k l. entry_long dir names there k l)

  entries_long : length (load_entries dir names) ≡ 128
  unfolding load_entries
  entries_long = length-append (join (load_entry dir names) (length names / 8)) (replicate (128 - 16 * (length names / 8)) 0)
      ∙ omega (arith, joined_long, length-replicate {A = ℕ} (128 - 16 * (length names / 8)) 0)

  -- entry k is that of name k
  pub entry_at : (k : ℕ) → k < length names / 8 → row 16 (load_entries dir names) k ≡ load_entry dir names k
  unfolding load_entries
  entry_at k l =
      part_append (join (load_entry dir names) (length names / 8)) (replicate (128 - 16 * (length names / 8)) 0) (16 * k) 16 (omega (arith, joined_long, row_end 16 l))
      ∙ row_join 16 (load_entry dir names) (length names / 8) k l (λ j b. entry_long dir names there j b)

  -- the entries behind them are zeros
  pub entry_unused : (k : ℕ) → length names / 8 ≤ k → k < 8 → row 16 (load_entries dir names) k ≡ replicate 16 0
  unfolding load_entries part
  entry_unused k g l =
      part_right (join (load_entry dir names) (length names / 8)) (replicate (128 - 16 * (length names / 8)) 0) (16 * k) 16 (omega (arith, joined_long))
      ∙ rw (drop_zeros (128 - 16 * (length names / 8)) (16 * k - length (join (load_entry dir names) (length names / 8))) (omega (arith, joined_long)))
      (take_zeros (128 - 16 * (length names / 8) - (16 * k - length (join (load_entry dir names) (length names / 8)))) 16 (omega (arith, joined_long)))

-- ---- the block of a configuration of 64 bytes

-- the n bytes from `at` on behind a front that is k bytes long
behind : (front rest : List ℕ) (k at n : ℕ) → length front ≡ k → k ≤ at → part (front ++ rest) at n ≡ part rest (at - k) n
behind front rest k at n e h = part_right front rest at n (omega arith) ∙ ap (λ (j : ℕ). part rest (at - j) n) e

module _ (dir c : List ℕ) (io : ℕ) (choice : Choice) (long : length c ≡ 64) where
  drives_part : length (part c 0 32) ≡ 32
  drives_part = length_part c 0 32 (omega arith)

  ahead_part : length (part c 32 32) ≡ 32
  ahead_part = length_part c 32 32 (omega arith)

  -- what stands where
  pub block_drives : part (block_of dir c io choice) 0 32 ≡ part c 0 32
  unfolding block_of
  block_drives = part_mid [] (part c 0 32) 0 32 refl drives_part (io ∷ (part c 32 32 ++ (choice.flag ∷ load_entries dir choice.names)))

  pub block_iobyte : part (block_of dir c io choice) 32 1 ≡ io ∷ []
  unfolding block_of
  block_iobyte = part_mid (part c 0 32) (io ∷ []) 32 1 drives_part refl (part c 32 32 ++ (choice.flag ∷ load_entries dir choice.names))

  pub block_ahead : part (block_of dir c io choice) 33 32 ≡ part c 32 32
  unfolding block_of
  block_ahead =
      behind (part c 0 32) (io ∷ (part c 32 32 ++ (choice.flag ∷ load_entries dir choice.names))) 32 33 32 drives_part (omega arith)
      ∙ part_mid (io ∷ []) (part c 32 32) 1 32 refl ahead_part (choice.flag ∷ load_entries dir choice.names)

  from_flag : (at n : ℕ) → 65 ≤ at → part (block_of dir c io choice) at n ≡ part (choice.flag ∷ load_entries dir choice.names) (at - 65) n
  unfolding block_of
  from_flag at n h =
      behind (part c 0 32) (io ∷ (part c 32 32 ++ (choice.flag ∷ load_entries dir choice.names))) 32 at n drives_part (omega arith)
      ∙ behind (io ∷ []) (part c 32 32 ++ (choice.flag ∷ load_entries dir choice.names)) 1 (at - 32) n refl (omega arith)
      ∙ behind (part c 32 32) (choice.flag ∷ load_entries dir choice.names) 32 (at - 32 - 1) n ahead_part (omega arith)
      ∙ ap (λ (k : ℕ). part (choice.flag ∷ load_entries dir choice.names) k n) there
    where
      there : at - 32 - 1 - 32 ≡ at - 65
      there = omega arith

  pub block_flag : part (block_of dir c io choice) 65 1 ≡ choice.flag ∷ []
  block_flag = from_flag 65 1 (omega arith) ∙ part_mid [] (choice.flag ∷ []) 0 1 refl refl (load_entries dir choice.names)

  module _ (most : length choice.names ≤ 64) (there : all_there dir choice.names ≡ true) where
    pub block_entries : part (block_of dir c io choice) 66 128 ≡ load_entries dir choice.names
    block_entries =
        from_flag 66 128 (omega arith)
        ∙ part_end (choice.flag ∷ []) (load_entries dir choice.names) 1 128 refl (entries_long dir choice.names most there)

    pub block_long : length (block_of dir c io choice) ≡ 194
    unfolding block_of
    block_long =
        length-append (part c 0 32) (io ∷ (part c 32 32 ++ (choice.flag ∷ load_entries dir choice.names)))
        ∙ omega (arith, drives_part, length-append (part c 32 32) (choice.flag ∷ load_entries dir choice.names), ahead_part, entries_long dir choice.names most there)
