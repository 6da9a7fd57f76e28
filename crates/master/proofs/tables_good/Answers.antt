use Rattle.master.specs.Tables.{good_tables}
use Rattle.locks.specs.Good.{good_locks}
use Rattle.who.proofs.WhoLaws.{good_is, word_logged}
use mathlib.Core.Bool.{Bool}
use mathlib.Core.Path.{sym, ap, ◌∙◌}
use Prim.Native.Nat.{ℕ}
use Rattle.master.proofs.tables_good.Goals as goal

pub word_of-requires : goal.word_of-requires
word_of-requires c = (good_is c.args.records.now (sym c.is_good.ensures.answer ∙ c.if-is_good.true)).sized

pub returns-then-is_good : goal.returns-then-is_good
unfolding good_tables
returns-then-is_good c =
    let w = c.args.records.now in
    let t = c.args.locks.now in
    let good = sym c.is_good.ensures.answer ∙ c.if-is_good.true in
    let inside = word_logged w (good_is w good).sized _ c.word_of.ensures in
    record { answer = rw good (c.is_good-then-is_good.ensures.answer ∙ ap (λ (p : ℕ → Bool). good_locks p t) inside) }

pub returns-else-is_good : goal.returns-else-is_good
unfolding good_tables
returns-else-is_good c = record { answer = rw (sym c.is_good.ensures.answer ∙ c.if-is_good.false) c.if-is_good.false }
