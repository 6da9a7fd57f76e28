use mathlib.Core.Path.{sym, ◌∙◌}
use Rattle.boot.proofs.lookups.is_user.Goals as goal

pub returns-then-not-matches : goal.returns-then-not-matches
returns-then-not-matches c = rw (sym c.array_in.ensures, sym c.matches.ensures ∙ c.if-not-matches.true)

pub returns : goal.returns
returns c =
    rw (sym c.array_in.ensures, sym c.matches.ensures ∙ c.if-not-matches.false, sym c.part.ensures) c.is_same.ensures.answer
