use Rattle.framing.proofs.TakeLaws.{goes_both, coming_more}
use Rattle.framing.proofs.runs.Span.pull.Goals as goal

pub step-r-requires : goal.step-r-requires
step-r-requires c =
    let at = c.loop-r in
    (c.loop-r-test.true, coming_more c.args.self.now at.r c.loop-r-test.true at.invariant.1)

pub loop-r-preserved : goal.loop-r-preserved
loop-r-preserved c =
    let at = c.loop-r in
    (goes_both c.args.self.now _ at.r c.step-r.result at.invariant.0 c.step-r.ensures.0, rw c.step-r.ensures.0.same at.invariant.1)
