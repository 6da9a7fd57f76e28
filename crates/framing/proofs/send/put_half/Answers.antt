use native.Mathlib.Omega.{arith}
use mathlib.Core.Path.{sym, ap, ◌∙◌}
use lib.ListN.{length}
use Rattle.framing.proofs.BitLaws.{length_bits_of}
use Rattle.framing.proofs.send.put_half.Goals as goal

pub put-requires : goal.put-requires
put-requires c = let run = c.put_in-run in omega (arith, c.requires.1, sym (length_bits_of run.result.count run.result.bits) ∙ ap length run.ensures.0.bits)

pub returns : goal.returns
returns c =
    let run = c.put_in-run in
    let laid = c.put.ensures in
    record { lays = rw (sym run.ensures.0.bits) laid.0; ones = laid.1 ∙ run.ensures.0.ones }
