-- A run of frames and poll turns, and what each is answered.
use Rattle.std.specs.Prelude.{ℕ, Bool, List, [], ◌∷◌, ◌++◌}
use Rattle.master.specs.Answers.{Told}
use Rattle.master.specs.Frames.{frame_effect}
use Rattle.master.specs.Polls.{poll_effect}

-- a frame at the number polled, or a poll turn heard or not, and what it must be answered
pub data Line : Type 0 where
  frame : ℕ → List ℕ → Told → Line
  poll : ℕ → Bool → Told → Line

-- the site file, the tables before the first line, and the lines
pub record Example : Type 0 where
  pub site : List ℕ
  pub locks : List ℕ
  pub stations : List ℕ
  pub lines : List Line

unfoldable pub played : List ℕ → List ℕ → List ℕ → List Line → List Told
played s t w [] = []
played s t w (frame n f _ ∷ rest) =
    (frame_effect n f s t w).tells
    ∷ played s (frame_effect n f s t w).locks (frame_effect n f s t w).records rest
played s t w (poll n heard _ ∷ rest) =
    (poll_effect n heard t w).tells
    ∷ played s (poll_effect n heard t w).locks (poll_effect n heard t w).records rest

unfoldable pub said : List Line → List Told
said [] = []
said (frame _ _ told ∷ rest) = told ∷ said rest
said (poll _ _ told ∷ rest) = told ∷ said rest

-- of a whole table
unfoldable pub all_played : List Example → List Told
all_played [] = []
all_played (e ∷ rest) = played e.site e.locks e.stations e.lines ++ all_played rest

unfoldable pub all_said : List Example → List Told
all_said [] = []
all_said (e ∷ rest) = said e.lines ++ all_said rest
