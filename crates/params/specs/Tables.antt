-- The tables of 000 ("Assign Partition"), a row for each size code. What we read where the print is unclear: docs/DECISIONS.md.
use Rattle.std.specs.Prelude.{ℕ, Bool, ◌&&◌, List, [], ◌∷◌, leb}

-- size codes 1 to 6
unfoldable pub sized : ℕ → Bool
sized n = leb 1 n && leb n 6

-- CP/M 2.2: SPT, BSH, BLM, EXM, DSM, DRM, AL0, AL1, CKS, OFF
unfoldable pub cpm_table : List (List ℕ)
cpm_table =
    (128 ∷ 3 ∷ 7 ∷ 0 ∷ 255 ∷ 63 ∷ 0xC0 ∷ 0x00 ∷ 16 ∷ 0 ∷ [])
    ∷ (128 ∷ 4 ∷ 15 ∷ 0 ∷ 255 ∷ 127 ∷ 0xC0 ∷ 0x00 ∷ 32 ∷ 0 ∷ [])
    ∷ (128 ∷ 4 ∷ 15 ∷ 0 ∷ 511 ∷ 255 ∷ 0xF0 ∷ 0x00 ∷ 64 ∷ 0 ∷ [])
    ∷ (128 ∷ 4 ∷ 15 ∷ 0 ∷ 1023 ∷ 511 ∷ 0xFF ∷ 0x00 ∷ 128 ∷ 0 ∷ [])
    ∷ (128 ∷ 4 ∷ 15 ∷ 0 ∷ 2047 ∷ 1023 ∷ 0xFF ∷ 0xFF ∷ 256 ∷ 0 ∷ [])
    ∷ (128 ∷ 5 ∷ 31 ∷ 1 ∷ 2047 ∷ 1023 ∷ 0xFF ∷ 0x00 ∷ 256 ∷ 0 ∷ [])
    ∷ []

-- MS-DOS 2.0: bytes per sector, sectors per cluster, reserved sectors, FATs, root entries, sectors, media, sectors per FAT, sectors per
-- track
unfoldable pub msdos_table : List (List ℕ)
msdos_table =
    (128 ∷ 8 ∷ 1 ∷ 2 ∷ 64 ∷ 2048 ∷ 0 ∷ 3 ∷ 128 ∷ [])
    ∷ (128 ∷ 8 ∷ 1 ∷ 2 ∷ 128 ∷ 4096 ∷ 1 ∷ 6 ∷ 128 ∷ [])
    ∷ (128 ∷ 8 ∷ 1 ∷ 2 ∷ 256 ∷ 8192 ∷ 2 ∷ 12 ∷ 128 ∷ [])
    ∷ (128 ∷ 16 ∷ 1 ∷ 2 ∷ 256 ∷ 16384 ∷ 3 ∷ 12 ∷ 128 ∷ [])
    ∷ (128 ∷ 16 ∷ 1 ∷ 2 ∷ 256 ∷ 32768 ∷ 4 ∷ 24 ∷ 128 ∷ [])
    ∷ (128 ∷ 32 ∷ 1 ∷ 2 ∷ 256 ∷ 65535 ∷ 5 ∷ 24 ∷ 128 ∷ [])
    ∷ []
