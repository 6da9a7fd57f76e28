use borrow.Author.Rules.{rules}
use Rattle.rows.specs.Numbers.{low_bytes}
use Rattle.params.specs.Blocks.{laid, msdos_numbers, msdos_widths, msdos_bytes}
use Rattle.params.proofs.BlockLaws.{byte}
use Rattle.params.proofs.msdos.MsdosBlockBlock.to_bytes.Goals as goal

pub returns : goal.returns
unfolding msdos_bytes laid msdos_numbers msdos_widths low_bytes
returns c =
    let p = c.args.self in
    rw (c.to_le_bytes.ensures, c.to_le_bytes-2.ensures, c.to_le_bytes-3.ensures, c.to_le_bytes-4.ensures, c.to_le_bytes-5.ensures, c.to_le_bytes-6.ensures) (cc (byte {x = p.sectors_per_cluster} (search rules), byte {x = p.fats} (search rules), byte {x = p.media} (search rules)))
