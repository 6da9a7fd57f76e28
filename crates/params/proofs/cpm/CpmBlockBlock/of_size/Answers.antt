use mathlib.Core.List.{List}
use Prim.Native.Nat.{ℕ}
use lib.ListN.{get_or}
use Rattle.params.specs.declared.CpmBlock.{CpmBlock}
use Rattle.params.proofs.TableLaws.{by_row}
use Rattle.params.specs.Tables.{cpm_table}
use Rattle.params.specs.Blocks.{cpm_of, cpm_block}
use Rattle.params.specs.declared.cpm.CpmRow.{CpmRow}
use Rattle.params.proofs.cpm.CpmBlockBlock.of_size.Goals as goal

-- a row of the rules' table as a row of the code's, and the block that the code makes of it
abbrev row_of : List ℕ → CpmRow
row_of numbers = record {
  0 = get_or numbers 0 0;
  1 = get_or numbers 1 0;
  2 = get_or numbers 2 0;
  3 = get_or numbers 3 0;
  4 = get_or numbers 4 0;
  5 = get_or numbers 5 0;
  6 = get_or numbers 6 0;
  7 = get_or numbers 7 0;
  8 = get_or numbers 8 0;
  9 = get_or numbers 9 0;
}

abbrev block_of : CpmRow → CpmBlock
block_of row = record {
  spt = row.0;
  bsh = row.1;
  blm = row.2;
  exm = row.3;
  dsm = row.4;
  drm = row.5;
  al0 = row.6;
  al1 = row.7;
  cks = row.8;
  off = row.9;
}

pub returns : goal.returns
unfolding cpm_table cpm_of cpm_block
returns c = by_row row_of block_of cpm_table _ _ c.row_of.ensures.0
