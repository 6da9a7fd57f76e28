use mathlib.Core.Path.{ap, ◌∙◌}
use Rattle.hinet.specs.Packing.{word}
use Rattle.hinet.specs.Entries.{located_told, place_word}
use Rattle.terms.specs.declared.Place.{Place}
use Rattle.master.specs.Answers.{answers, place_at, told}
use Rattle.site.specs.Places.{placed_by}
use Rattle.hinet.proofs.PlaceLaws.{fields_placed}
use Rattle.hinet.proofs.TellingLaws.{answer_tells, refused_tells, step_on, place_tells}
use borrow.Author.Rules.{rules}
use Rattle.hinet.proofs.hinet_place.Goals as goal

pub returns : goal.returns
unfolding place_word told
returns c =
    let placed = c.place.ensures.answer ∙ ap (placed_by _) c.address_of.ensures ∙ fields_placed _ _ _ _ _ in
    record { answer = c.pack.ensures ∙ ap word (step_on answer_tells (λ (p : Place). answers (place_at p.volume.0 p.sector)) refused_tells (λ x y e. search rules) _ _ c.map.ensures.cases ∙ place_tells _ ∙ ap located_told placed) }
