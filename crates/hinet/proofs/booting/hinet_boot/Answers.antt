use mathlib.Core.Path.{ap, ◌∙◌}
use Rattle.hinet.specs.Packing.{word}
use Rattle.hinet.specs.BootEntries.{booted_told}
use Rattle.hinet.proofs.BootLaws.{booted_choice}
use Rattle.hinet.proofs.TellingLaws.{boot_tells}
use Rattle.hinet.proofs.booting.hinet_boot.Goals as goal

pub returns : goal.returns
returns c = let got = c.boot.ensures in
    record { answer = c.pack.ensures ∙ ap word (boot_tells _ ∙ ap booted_told got.answer ∙ booted_choice _ _ _ _ _); left = got.left }
