use mathlib.Core.Path.{refl, ap, ◌∙◌}
use Rattle.hinet.specs.Packing.{word}
use Rattle.hinet.specs.declared.packing.Bits.{Bits}
use Rattle.master.specs.Answers.{answers, bits_of}
use Rattle.hinet.proofs.TellingLaws.{refusal_tells, gives_tells, step_on}
use borrow.Author.Rules.{rules}
use Rattle.hinet.proofs.line.hinet_line_write.Goals as goal

pub returns : goal.returns
returns c = let wrote = c.write.ensures in
    record { answer = c.pack.ensures ∙ ap word (step_on (λ (b : Bits). answers (bits_of b.0)) (λ n. answers (bits_of n)) refusal_tells (λ x y e. search rules) _ _ c.map.ensures.cases ∙ gives_tells (λ n. answers (bits_of n)) _ _ _ _ wrote.answer refl); left = wrote.left }
