-- No two statuses have one byte.
use Prim.Native.Nat.{ℕ}
use mathlib.Core.Path.{◌≡◌, refl, sym, ap, ◌∙◌}
use mathlib.Core.Bool.{cond}
use lib.Dec.{eqb}
use Rattle.terms.specs.declared.Status.{Status}
use Rattle.terms.specs.declared.Status.TheVariants.{Granted, NotYours, HeldByAnother, AlreadyYours, NoRoom}
use Rattle.terms.specs.Statuses.{byte_of}

-- the status of a byte
abbrev pub status_named : ℕ → Status
status_named b = cond (eqb b 0x00) Granted (cond (eqb b 0x01) HeldByAnother (cond (eqb b 0x02) NotYours (cond (eqb b 0x81) AlreadyYours NoRoom)))

pub status_back : (s : Status) → status_named (byte_of s) ≡ s
status_back Granted = refl
status_back NotYours = refl
status_back HeldByAnother = refl
status_back AlreadyYours = refl
status_back NoRoom = refl

pub byte_of_one : (a b : Status) → byte_of a ≡ byte_of b → a ≡ b
byte_of_one a b e = sym (status_back a) ∙ (ap status_named e ∙ status_back b)
