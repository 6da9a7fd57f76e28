use Rattle.boot.specs.Block.{load_entry}
use Rattle.boot.proofs.BlockLaws.{name_file, entry_long, entry_is, finds_there, finds_is}
use Rattle.rows.specs.Rows.{put, join}
use Rattle.rows.proofs.RowLaws.{join_none, join_more}
use lib.ListN.{length}
use mathlib.Core.Path.{ap, ◌∙◌}
use native.Mathlib.Nat.{le_antisymm}
use native.Mathlib.Omega.{arith}
use Prim.Native.Nat.{ℕ}
use Rattle.boot.proofs.block.put_entries.Goals as goal

pub loop-k-init : goal.loop-k-init
loop-k-init c = (omega arith, join_none 16 _ _ 66)

pub unwrap-file-requires : goal.unwrap-file-requires
unwrap-file-requires c = finds_there _ _ c.file_at.result c.file_at.ensures (name_file _ _ c.requires.list_value _ c.loop-k-test.true)

pub entry_of-requires : goal.entry_of-requires
entry_of-requires c = rw (finds_is _ _ _ _ c.file_at.ensures c.unwrap-file.ensures) (name_file _ _ c.requires.list_value _ c.loop-k-test.true)

pub put-requires : goal.put-requires
put-requires c =
    let is = finds_is _ _ _ _ c.file_at.ensures c.unwrap-file.ensures in
    let long = ap length (entry_is c.args.directory.now c.args.list.now _ is c.entry_of.ensures) ∙ entry_long _ _ c.requires.list_value _ c.loop-k-test.true in
    omega (arith, long, c.requires.list_len_bound.0, c.requires.list_len_bound.1, c.loop-k-test.true)

pub loop-k-preserved : goal.loop-k-preserved
loop-k-preserved c =
    let is = finds_is _ _ _ _ c.file_at.ensures c.unwrap-file.ensures in
    let entry = entry_is c.args.directory.now c.args.list.now _ is c.entry_of.ensures in
    (omega arith, c.put.ensures ∙ rw (c.loop-k.invariant.1, entry) (join_more 16 (load_entry c.args.directory.now c.args.list.now) c.args.block.now 66 _ (λ j b. entry_long _ _ c.requires.list_value j (omega (arith, c.loop-k-test.true))) (omega (arith, c.requires.list_len_bound.0, c.requires.list_len_bound.1, c.loop-k-test.true))))

pub returns : goal.returns
returns c = let a = c.args in
    c.loop-k.invariant.1 ∙ ap (λ (k : ℕ). put a.block.now 66 (join (load_entry a.directory.now a.list.now) k)) (le_antisymm c.loop-k.invariant.0 c.loop-k-test.false)
