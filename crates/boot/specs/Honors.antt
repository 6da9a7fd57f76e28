-- The honor flags.
use Rattle.std.specs.Prelude.{ℕ}
use Rattle.boot.specs.declared.Honor.{Honor}
use Rattle.boot.specs.declared.Honor.TheVariants.{Exact, Smallest, LoginPlease, Menu, Nothing}

abbrev pub flag_of : Honor → ℕ
flag_of Exact = 0
flag_of Smallest = 1
flag_of LoginPlease = 2
flag_of Menu = 3
flag_of Nothing = 4
