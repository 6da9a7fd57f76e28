-- What the tabled figures keep, in one statement over the rows: `agrees` holds of each size code n from 1 to 6.
use Rattle.std.specs.Prelude.{ℕ, ◌+◌, ◌-◌, ◌*◌, ◌/◌, ◌^◌, Bool, cond, ◌&&◌, eqb, leb, ltb}
use Rattle.site.specs.Rules.{tracks, sectors}
use Rattle.params.specs.declared.CpmBlock.{CpmBlock}
use Rattle.params.specs.declared.MsdosBlock.{MsdosBlock}
use Rattle.params.specs.Blocks.{cpm_block, msdos_block}

-- the partition's size in bytes: 01's sectors × 128
unfoldable pub partition_bytes : ℕ → ℕ
partition_bytes n = sectors n * 128

-- CP/M: blocks and the bytes of one; directory entries, and the blocks that hold them at 32 bytes an entry
unfoldable pub blocks : CpmBlock → ℕ
blocks p = p.dsm + 1

unfoldable pub block_size : CpmBlock → ℕ
block_size p = 128 * 2 ^ p.bsh

unfoldable pub entries : CpmBlock → ℕ
entries p = p.drm + 1

unfoldable pub directory_blocks : CpmBlock → ℕ
directory_blocks p = entries p * 32 / block_size p

-- CP/M's blocks × block size equal the partition's size
unfoldable pub cpm_whole : ℕ → Bool
cpm_whole n = eqb (blocks (cpm_block n) * block_size (cpm_block n)) (partition_bytes n)

-- so do MS-DOS's sectors × 128, but for size 6, where 65,535 is one short of 65,536
unfoldable pub uncounted : ℕ → ℕ
uncounted n = cond (eqb n 6) 1 0

unfoldable pub msdos_whole : ℕ → Bool
msdos_whole n = eqb (((msdos_block n).sectors + uncounted n) * 128) (partition_bytes n)

-- block shift and mask agree: the mask is one less than the records of 128 bytes in a block
unfoldable pub mask_agrees : CpmBlock → Bool
mask_agrees p = eqb (p.blm + 1) (2 ^ p.bsh)

-- the directory blocks hold the directory's entries and nothing else; there are at most 16, and AL0 and AL1 mark them as the first blocks,
-- from the high bit on
unfoldable pub directory_holds : CpmBlock → Bool
directory_holds p =
    eqb (directory_blocks p * block_size p) (entries p * 32)
    && (leb (directory_blocks p) 16
    && eqb (256 * p.al0 + p.al1) (2 ^ 16 - 2 ^ (16 - directory_blocks p)))

-- the check vector is a quarter of the directory
unfoldable pub check_agrees : CpmBlock → Bool
check_agrees p = eqb (4 * p.cks) (entries p)

-- beyond 02: both systems count 01's sectors: as many in a track, of 128 bytes, and no system tracks
unfoldable pub sectors_agree : ℕ → Bool
sectors_agree n =
    eqb (tracks n * (cpm_block n).spt) (sectors n)
    && (eqb (cpm_block n).off 0
    && (eqb (tracks n * (msdos_block n).sectors_per_track) (sectors n)
    && eqb (msdos_block n).bytes_per_sector 128))

-- beyond 02: the block numbers of an entry, 16 of one byte or 8 of two, reach all of its extents of 16,384 bytes
unfoldable pub extents_reach : CpmBlock → Bool
extents_reach p = leb ((p.exm + 1) * 16384) (cond (ltb p.dsm 256) 16 8 * block_size p)

-- beyond 02: a FAT has 12 bits for each cluster and for two more, and no sector too many; clusters are what the reserved sectors, the FATs
-- and the root directory leave
unfoldable pub clusters : MsdosBlock → ℕ
clusters p =
    (p.sectors - p.reserved_sectors - p.fats * p.sectors_per_fat - p.root_entries * 32 / p.bytes_per_sector) / p.sectors_per_cluster

unfoldable pub fat_holds : MsdosBlock → Bool
fat_holds p =
    leb ((clusters p + 2) * 12) (p.sectors_per_fat * p.bytes_per_sector * 8)
    && ltb ((p.sectors_per_fat - 1) * p.bytes_per_sector * 8) ((clusters p + 2) * 12)

unfoldable pub agrees : ℕ → Bool
agrees n =
    cpm_whole n
    && (msdos_whole n
    && (mask_agrees (cpm_block n)
    && (directory_holds (cpm_block n)
    && (check_agrees (cpm_block n)
    && (sectors_agree n
    && (extents_reach (cpm_block n)
    && fat_holds (msdos_block n)))))))
