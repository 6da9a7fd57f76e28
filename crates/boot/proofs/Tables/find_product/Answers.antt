use Rattle.boot.specs.Tables.{is_product, product_of}
use Rattle.boot.proofs.TableLaws.{product_row}
use Rattle.rows.proofs.IndexLaws.{search_starts, search_on, search_hit, search_ends}
use mathlib.Core.Path.{sym, ◌∙◌}
use native.Mathlib.Omega.{arith}
use borrow.Author.Tests.{eq-eqb, ne_eqb}
use Rattle.boot.proofs.Tables.find_product.Goals as goal

pub loop-i-init : goal.loop-i-init
loop-i-init c = search_starts _ _

pub overflow_mul-i : goal.overflow_mul-i
overflow_mul-i c = omega (arith, product_row _ _ (rw c.product_rows-i-end.ensures at c.loop-i-test.true))

pub bounds-self-i : goal.bounds-self-i
bounds-self-i c = omega (arith, product_row _ _ (rw c.product_rows-i-end.ensures at c.loop-i-test.true))

pub returns-then-seven_bits-wanted : goal.returns-then-seven_bits-wanted
unfolding is_product product_of
returns-then-seven_bits-wanted c =
    let wanted = c.seven_bits-wanted.ensures.0 in
    rw (← c.product_rows-i-end.ensures) (search_hit _ _ c.loop-i.invariant c.loop-i-test.true (eq-eqb _ _ (sym c.seven_bits.ensures.0 ∙ c.if-seven_bits-wanted.true ∙ wanted)), c.loop-i-test.true)

pub loop-i-preserved : goal.loop-i-preserved
unfolding is_product
loop-i-preserved c =
    let wanted = c.seven_bits-wanted.ensures.0 in
    search_on _ _ c.loop-i.invariant c.loop-i-test.true (ne_eqb _ _ (λ e. c.if-seven_bits-wanted.false (c.seven_bits.ensures.0 ∙ e ∙ sym wanted)))

pub returns : goal.returns
unfolding product_of
returns c = rw (← c.product_rows-i-end.ensures) (search_ends _ _ c.loop-i.invariant c.loop-i-test.false)
