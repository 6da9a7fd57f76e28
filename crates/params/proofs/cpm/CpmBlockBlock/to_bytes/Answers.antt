use borrow.Author.Rules.{rules}
use Rattle.rows.specs.Numbers.{low_bytes}
use Rattle.params.specs.Blocks.{laid, cpm_numbers, cpm_widths, cpm_bytes}
use Rattle.params.proofs.BlockLaws.{byte}
use Rattle.params.proofs.cpm.CpmBlockBlock.to_bytes.Goals as goal

pub returns : goal.returns
unfolding cpm_bytes laid cpm_numbers cpm_widths low_bytes
returns c =
    let p = c.args.self in
    rw (c.to_le_bytes.ensures, c.to_le_bytes-2.ensures, c.to_le_bytes-3.ensures, c.to_le_bytes-4.ensures, c.to_le_bytes-5.ensures) (cc (byte {x = p.bsh} (search rules), byte {x = p.blm} (search rules), byte {x = p.exm} (search rules), byte {x = p.al0} (search rules), byte {x = p.al1} (search rules)))
