use mathlib.Core.List.{List}
use Prim.Native.Nat.{ℕ}
use lib.ListN.{get_or}
use Rattle.params.specs.declared.MsdosBlock.{MsdosBlock}
use Rattle.params.proofs.TableLaws.{by_row}
use Rattle.params.specs.Tables.{msdos_table}
use Rattle.params.specs.Blocks.{msdos_of, msdos_block}
use Rattle.params.specs.declared.msdos.MsdosRow.{MsdosRow}
use Rattle.params.proofs.msdos.MsdosBlockBlock.of_size.Goals as goal

-- a row of the rules' table as a row of the code's, and the block that the code makes of it
abbrev row_of : List ℕ → MsdosRow
row_of numbers = record {
  0 = get_or numbers 0 0;
  1 = get_or numbers 1 0;
  2 = get_or numbers 2 0;
  3 = get_or numbers 3 0;
  4 = get_or numbers 4 0;
  5 = get_or numbers 5 0;
  6 = get_or numbers 6 0;
  7 = get_or numbers 7 0;
  8 = get_or numbers 8 0;
}

abbrev block_of : MsdosRow → MsdosBlock
block_of row = record {
  bytes_per_sector = row.0;
  sectors_per_cluster = row.1;
  reserved_sectors = row.2;
  fats = row.3;
  root_entries = row.4;
  sectors = row.5;
  media = row.6;
  sectors_per_fat = row.7;
  sectors_per_track = row.8;
}

pub returns : goal.returns
unfolding msdos_table msdos_of msdos_block
returns c = by_row row_of block_of msdos_table _ _ c.row_of.ensures.0
