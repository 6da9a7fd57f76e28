use Prim.Native.Nat.{◌+◌}
use mathlib.Core.Path.{sym, ap, ◌∙◌}
use lib.ListN.{drop, drop_of_length-le}
use Rattle.framing.specs.Check.{check_from}
use Rattle.framing.proofs.CheckLaws.{check_more}
use Rattle.framing.proofs.fcs.add_bytes.Goals as goal

pub loop-byte-preserved : goal.loop-byte-preserved
loop-byte-preserved c =
    let s = c.args.bytes.now in
    let at = c.loop-byte in
    ap (λ f. check_from f (drop (at.byte-index + 1) s)) c.add_byte-register.ensures
    ∙ sym (check_more at.register s at.byte-index c.loop-byte-test.true)
    ∙ at.invariant

pub returns : goal.returns
unfolding check_from
returns c =
    let s = c.args.bytes.now in
    sym (ap (check_from c.loop-byte.register) (drop_of_length-le s c.loop-byte-test.false)) ∙ c.loop-byte.invariant
