use Rattle.framing.proofs.MeasureLaws.{weighed_20, weighed_21, weighed_17, weighed_22, weighed_content}
use Rattle.framing.proofs.weigh.Goals as goal

pub returns-then-sum-ne0 : goal.returns-then-sum-ne0
returns-then-sum-ne0 c =
    let sum = c.sum-sum in
    weighed_20 c.args.span.now sum.result sum.ensures c.if-sum-ne0.true

pub returns-then-sum-lt4 : goal.returns-then-sum-lt4
returns-then-sum-lt4 c =
    let sum = c.sum-sum in
    weighed_21 c.args.span.now sum.result sum.ensures c.if-sum-ne0.false c.if-sum-lt4.true

pub returns-then-sum-gt-MOST : goal.returns-then-sum-gt-MOST
returns-then-sum-gt-MOST c =
    let sum = c.sum-sum in
    weighed_17 c.args.span.now sum.result sum.ensures c.if-sum-ne0.false c.if-sum-lt4.false c.if-sum-gt-MOST.true

pub returns-then-sum : goal.returns-then-sum
returns-then-sum c =
    let sum = c.sum-sum in
    weighed_22 c.args.span.now sum.result sum.ensures c.if-sum-ne0.false c.if-sum-lt4.false c.if-sum-gt-MOST.false c.if-sum.true

pub returns : goal.returns
returns c =
    let sum = c.sum-sum in
    weighed_content c.args.span.now sum.result sum.ensures c.if-sum-ne0.false c.if-sum-lt4.false c.if-sum-gt-MOST.false c.if-sum.false
