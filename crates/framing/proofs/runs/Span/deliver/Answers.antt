use native.Mathlib.Numerals.{add-one}
use native.Mathlib.Omega.{arith}
use mathlib.Core.Path.{◌≡◌, sym, ap, ◌∙◌}
use lib.ListN.{take, drop, length-drop}
use Rattle.framing.specs.Bits.{value, packed}
use Rattle.framing.specs.Inner.{plain, coming}
use Rattle.framing.proofs.TakeLaws.{fresh_coming, byte_taken, rest_taken}
use Rattle.framing.proofs.runs.Span.deliver.Goals as goal

pub pull-first-requires : goal.pull-first-requires
pull-first-requires c =
    let a = c.args in
    let span = a.self.now in
    let pre = c.requires in
    let new = c.new.ensures in
    (rw new.0 span.order, rw (fresh_coming span c.new.result new.0 new.1 new.2 new.3) (omega (arith, pre.0)))

pub copy-requires : goal.copy-requires
copy-requires c =
    let first = c.pull-first in
    let a = c.args in
    let span = a.self.now in
    let pre = c.requires in
    let new = c.new.ensures in
    let rest = c.rest_of.ensures in
    let all = plain span in
    let left : coming span c.rest_of.result ≡ drop 8 all =
    rest_taken span first.result c.rest_of.result first.ensures.1 rest.0 rest.1 rest.2 rest.3
    ∙ ap (drop 8) (first.ensures.0.same ∙ fresh_coming span c.new.result new.0 new.1 new.2 new.3) in
    (rw rest.0 first.ensures.0.inside, rw left (omega (arith, length-drop 8 all, pre.0)), pre.1)

pub returns : goal.returns
unfolding packed
returns c =
    let first = c.pull-first in
    let a = c.args in
    let span = a.self.now in
    let taken = c.rest_of in
    let new = c.new.ensures in
    let all = plain span in
    let here : coming span first.result ≡ all = first.ensures.0.same ∙ fresh_coming span c.new.result new.0 new.1 new.2 new.3 in
    let left : coming span taken.result ≡ drop 8 all =
    rest_taken span first.result taken.result first.ensures.1 taken.ensures.0 taken.ensures.1 taken.ensures.2 taken.ensures.3 ∙ ap (drop 8) here in
    let user = c.byte_of.ensures ∙ byte_taken span first.result taken.result first.ensures.1 taken.ensures.0 taken.ensures.1 taken.ensures.2 taken.ensures.3
    ∙ ap (λ q. value (take 8 q)) here in
    (rw (add-one a.n) user, rw (add-one a.n, sym left) c.copy.ensures)
