use Rattle.std.proofs.lemmas.Result.{err_from_is_err_and}
use Rattle.params.proofs.AnswerLaws.{puts_not_sized, puts_short, puts_whole}
use Rattle.params.proofs.put_block.Goals as goal

pub returns-in_err-block : goal.returns-in_err-block
returns-in_err-block g c =
    let p = err_from_is_err_and c.from_residual.result c.from_residual.ensures.1 in
    rw (p.1, p.2) (puts_not_sized c.args.size _ _ _ c.in_err-block.ensures)

pub returns-then-buffer-lt-BYTES : goal.returns-then-buffer-lt-BYTES
returns-then-buffer-lt-BYTES g c = puts_short c.args.size _ _ c.in_ok-block.ensures.0 c.if-buffer-lt-BYTES.true

pub returns : goal.returns
returns g c =
    puts_whole c.args.size _ _ c.in_ok-block.ensures.0 c.if-buffer-lt-BYTES.false (rw (c.to_bytes.ensures, c.in_ok-block.ensures.1) at c.put.ensures)
