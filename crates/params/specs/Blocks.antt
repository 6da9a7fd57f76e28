-- The two blocks: as records of a table's row, and as bytes.
use Rattle.std.specs.Prelude.{ℕ, ◌-◌, ◌≡◌, List, [], ◌∷◌, ◌++◌, get_or, take, drop}
use Rattle.rows.specs.Numbers.{low_first, low_bytes}
use Rattle.params.specs.declared.CpmBlock.{CpmBlock}
use Rattle.params.specs.declared.MsdosBlock.{MsdosBlock}
use Rattle.params.specs.declared.System.{System}
use Rattle.params.specs.declared.System.TheVariants.{Cpm, Msdos}
use Rattle.params.specs.Tables.{cpm_table, msdos_table}

-- numbers one after the other, each low byte first in as many bytes as its width says; and the numbers that stand so at the start of bytes
unfoldable pub laid : List ℕ → List ℕ → List ℕ
laid [] xs = []
laid (w ∷ ws) [] = []
laid (w ∷ ws) (x ∷ xs) = low_bytes w x ++ laid ws xs

unfoldable pub numbers_in : List ℕ → List ℕ → List ℕ
numbers_in [] b = []
numbers_in (w ∷ ws) b = low_first (take w b) ∷ numbers_in ws (drop w b)

-- CP/M's record of a row, and the numbers of a record
unfoldable pub cpm_of : List ℕ → CpmBlock
cpm_of row = record {
  spt = get_or row 0 0;
  bsh = get_or row 1 0;
  blm = get_or row 2 0;
  exm = get_or row 3 0;
  dsm = get_or row 4 0;
  drm = get_or row 5 0;
  al0 = get_or row 6 0;
  al1 = get_or row 7 0;
  cks = get_or row 8 0;
  off = get_or row 9 0;
}

unfoldable pub cpm_numbers : CpmBlock → List ℕ
cpm_numbers p = p.spt ∷ p.bsh ∷ p.blm ∷ p.exm ∷ p.dsm ∷ p.drm ∷ p.al0 ∷ p.al1 ∷ p.cks ∷ p.off ∷ []

-- SPT 2, BSH, BLM, EXM, DSM 2, DRM 2, AL0, AL1, CKS 2, OFF 2
unfoldable pub cpm_widths : List ℕ
cpm_widths = 2 ∷ 1 ∷ 1 ∷ 1 ∷ 2 ∷ 2 ∷ 1 ∷ 1 ∷ 2 ∷ 2 ∷ []

-- a record's bytes, the record that stands at the start of bytes, and the record of size code n
unfoldable pub cpm_bytes : CpmBlock → List ℕ
cpm_bytes p = laid cpm_widths (cpm_numbers p)

unfoldable pub cpm_in : List ℕ → CpmBlock
cpm_in b = cpm_of (numbers_in cpm_widths b)

unfoldable pub cpm_block : ℕ → CpmBlock
cpm_block n = cpm_of (get_or cpm_table (n - 1) [])

-- MS-DOS's likewise
unfoldable pub msdos_of : List ℕ → MsdosBlock
msdos_of row = record {
  bytes_per_sector = get_or row 0 0;
  sectors_per_cluster = get_or row 1 0;
  reserved_sectors = get_or row 2 0;
  fats = get_or row 3 0;
  root_entries = get_or row 4 0;
  sectors = get_or row 5 0;
  media = get_or row 6 0;
  sectors_per_fat = get_or row 7 0;
  sectors_per_track = get_or row 8 0;
}

unfoldable pub msdos_numbers : MsdosBlock → List ℕ
msdos_numbers p =
    p.bytes_per_sector
    ∷ p.sectors_per_cluster
    ∷ p.reserved_sectors
    ∷ p.fats
    ∷ p.root_entries
    ∷ p.sectors
    ∷ p.media
    ∷ p.sectors_per_fat
    ∷ p.sectors_per_track
    ∷ []

-- bytes per sector 2, sectors per cluster, reserved 2, FATs, root entries 2, sectors 2, media, sectors per FAT 2, sectors per track 2
unfoldable pub msdos_widths : List ℕ
msdos_widths = 2 ∷ 1 ∷ 2 ∷ 1 ∷ 2 ∷ 2 ∷ 1 ∷ 2 ∷ 2 ∷ []

unfoldable pub msdos_bytes : MsdosBlock → List ℕ
msdos_bytes p = laid msdos_widths (msdos_numbers p)

unfoldable pub msdos_in : List ℕ → MsdosBlock
msdos_in b = msdos_of (numbers_in msdos_widths b)

unfoldable pub msdos_block : ℕ → MsdosBlock
msdos_block n = msdos_of (get_or msdos_table (n - 1) [])

-- the bytes of a system's block of size code n
unfoldable pub block_bytes : System → ℕ → List ℕ
block_bytes Cpm n = cpm_bytes (cpm_block n)
block_bytes Msdos n = msdos_bytes (msdos_block n)

-- b reads as the record of size code n
unfoldable pub ReadsAs : System → ℕ → List ℕ → Type 0
ReadsAs Cpm n b = cpm_in b ≡ cpm_block n
ReadsAs Msdos n b = msdos_in b ≡ msdos_block n
