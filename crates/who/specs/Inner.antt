-- What only inner functions cite. No rule names these.
use Rattle.std.specs.Prelude.{ℕ, ◌+◌, ◌*◌, cond, List, [], ◌∷◌, Option, Some, None}
use Rattle.who.specs.declared.Station.{Station}
use Rattle.who.specs.Records.{flag}
use Rattle.who.specs.Good.{good_row}

-- who is logged in as a word, bit n for number n
unfoldable pub word_of : List Station → ℕ
word_of [] = 0
word_of (s ∷ xs) = flag s.logged + 2 * word_of xs

-- a row that breaks the rules has no word
unfoldable pub roll_of : List Station → Option ℕ
roll_of xs = cond (good_row xs) (Some (word_of xs)) None
