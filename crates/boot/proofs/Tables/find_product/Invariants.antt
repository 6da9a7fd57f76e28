use Rattle.boot.specs.Tables.{is_product}
use Rattle.rows.proofs.IndexLaws.{Searching}
use Rattle.boot.proofs.Tables.find_product.Given as goal

abbrev pub invariant-loop-i : goal.invariant-loop-i
invariant-loop-i l = Searching (is_product l.fn.self.products.now l.number) l.i-end l.i
