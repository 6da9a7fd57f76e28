-- The statement over the rows; that the bytes of a row read back; and that a partition has a size code.
use Prim.Native.Nat.{ℕ, ◌<◌}
use mathlib.Core.Path.{◌≡◌, refl}
use mathlib.Core.Bool.{true}
use mathlib.Core.List.{List, ◌++◌}
use lib.ListN.{length}
use borrow.Author.Tests.{le-leb}
use Rattle.rows.proofs.BoolLaws.{and_both}
use Rattle.rows.specs.Words.{all}
use Rattle.site.proofs.RuleLaws.{ranged_is, site_partition}
use Rattle.site.specs.Layout.{partitions, partition_row}
use Rattle.site.specs.Rules.{good_site, tracks, sectors}
use Rattle.params.specs.declared.System.{System}
use Rattle.params.specs.declared.System.TheVariants.{Cpm, Msdos}
use Rattle.params.specs.Tables.{sized, cpm_table, msdos_table}
use Rattle.params.specs.Blocks.{cpm_of, cpm_numbers, cpm_widths, cpm_block, msdos_of, msdos_numbers, msdos_widths, msdos_block, block_bytes, ReadsAs}
use Rattle.params.specs.Figures.{partition_bytes, blocks, block_size, entries, directory_blocks, cpm_whole, uncounted, msdos_whole, mask_agrees, directory_holds, check_agrees, sectors_agree, extents_reach, clusters, fat_holds, agrees}
use Rattle.params.proofs.TableLaws.{at_each}
use Rattle.params.proofs.BlockLaws.{fits, cpm_long, cpm_back, msdos_long, msdos_back}

-- the statement over the rows
pub figures_agree : (n : ℕ) → sized n ≡ true → agrees n ≡ true
unfolding all agrees cpm_whole msdos_whole mask_agrees directory_holds check_agrees sectors_agree extents_reach fat_holds partition_bytes blocks block_size entries directory_blocks uncounted clusters tracks sectors cpm_block cpm_of cpm_table msdos_block msdos_of msdos_table
figures_agree = at_each agrees refl

-- each number of the tables fits its bytes
cpm_fits : (n : ℕ) → sized n ≡ true → fits cpm_widths (cpm_numbers (cpm_block n)) ≡ true
unfolding all cpm_block cpm_of cpm_table cpm_widths cpm_numbers
cpm_fits = at_each (λ n. fits cpm_widths (cpm_numbers (cpm_block n))) refl

msdos_fits : (n : ℕ) → sized n ≡ true → fits msdos_widths (msdos_numbers (msdos_block n)) ≡ true
unfolding all msdos_block msdos_of msdos_table msdos_widths msdos_numbers
msdos_fits = at_each (λ n. fits msdos_widths (msdos_numbers (msdos_block n))) refl

-- each block has 15 bytes, and whatever follows them they read back as its record
pub block_long : (system : System) (n : ℕ) → length (block_bytes system n) ≡ 15
unfolding block_bytes
block_long Cpm n = cpm_long (cpm_block n)
block_long Msdos n = msdos_long (msdos_block n)

pub block_reads : (system : System) (n : ℕ) → sized n ≡ true → (rest : List ℕ) → ReadsAs system n (block_bytes system n ++ rest)
unfolding block_bytes ReadsAs
block_reads Cpm n code = cpm_back (cpm_block n) (cpm_fits n code)
block_reads Msdos n code = msdos_back (msdos_block n) (msdos_fits n code)

-- in a good site file each partition's size has parameters
pub partition_sized : (f : List ℕ) → good_site f ≡ true → (i : ℕ) → i < partitions f → sized (partition_row f i).size ≡ true
unfolding sized
partition_sized f good i l =
    let range = ranged_is (partition_row f i) (site_partition f good i l).range in
    and_both (le-leb _ _ range.least) (le-leb _ _ range.most)
