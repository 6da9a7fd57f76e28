-- How the input is cut into blocks does not matter: played block by block, a session has the same lines and tables as
-- played in one piece.
use Prim.Native.Nat.{ℕ, zero, suc, ◌+◌, ◌≤◌, ◌<◌}
use native.Mathlib.Omega.{arith}
use mathlib.Core.Path.{◌≡◌, sym, ap, ◌∙◌}
use mathlib.Core.Bool.{true, false}
use mathlib.Core.List.{List, [], ◌∷◌, ◌++◌, append-nil, append_assoc, flatten}
use lib.ListN.{length, drop, length-append, length-drop, get_or-append}
use lib.Seq.{take-append-le, drop-append-le}
use borrow.Author.Tests.{leb-true, le-leb, lt-leb}
use Rattle.rows.proofs.BoolLaws.{by_test}
use Rattle.rows.specs.Rows.{part}
use Rattle.session.proofs.PlayLaws.{play_on, play_none}
use Rattle.session.specs.Records.{number, frame_size, frame, record_size, whole}
use Rattle.session.specs.Session.{Stand, served, next_line, next, still, after, play_in, play, fed, play_blocks}

-- a whole record has two bytes or more, and they are all there
sized : (r : List ℕ) → whole r ≡ true → (2 ≤ record_size r) × (record_size r ≤ length r)
unfolding whole record_size
sized r y = (omega arith, leb-true (record_size r) (length r) y)

nothing : (r : List ℕ) → length r ≤ 0 → whole r ≡ false
unfolding whole record_size
nothing r h = lt-leb (record_size r) (length r) (omega arith)

-- what comes behind a whole record does not change it
module _ (r b : List ℕ) (y : whole r ≡ true) where
  number_same : number (r ++ b) ≡ number r
  unfolding number
  number_same = let z = sized r y in get_or-append r b 0 0 (omega arith)

  frame_size_same : frame_size (r ++ b) ≡ frame_size r
  unfolding frame_size
  frame_size_same = let z = sized r y in get_or-append r b 0 1 (omega arith)

  size_same : record_size (r ++ b) ≡ record_size r
  unfolding record_size
  size_same = ap (λ (n : ℕ). 2 + n) frame_size_same

  whole_same : whole (r ++ b) ≡ true
  unfolding whole
  whole_same = let z = sized r y in le-leb (record_size (r ++ b)) (length (r ++ b)) (omega (arith, size_same, length-append r b))

  frame_same : frame (r ++ b) ≡ frame r
  unfolding frame part record_size
  frame_same = let z = sized r y in
      rw (frame_size_same, drop-append-le 2 r b (omega arith), take-append-le (frame_size r) (drop 2 r) b (rw length-drop (omega arith)))

module _ (s : List ℕ) where
  -- the next record of a session that is fed
  module _ (d : Stand) (b : List ℕ) (y : whole d.rest ≡ true) where
    line_same : next_line s (fed d b) ≡ next_line s d
    unfolding next_line served
    line_same = rw (number_same d.rest b y, frame_same d.rest b y)

    next_same : next s (fed d b) ≡ fed (next s d) b
    unfolding next served
    next_same = let z = sized d.rest y in
        rw (size_same d.rest b y, drop-append-le (record_size d.rest) d.rest b z.1, number_same d.rest b y, frame_same d.rest b y)

  -- it takes bytes away from the input
  next_short : (d : Stand) → whole d.rest ≡ true → length (next s d).rest < length d.rest
  unfolding next served
  next_short d y = let z = sized d.rest y in rw length-drop (omega arith)

  -- how many records are allowed does not matter where the input has no more
  enough : (n m : ℕ) (d : Stand) → length d.rest ≤ n → length d.rest ≤ m → play_in n s d ≡ play_in m s d
  enough zero m d a b = play_none s d zero (nothing d.rest a) ∙ sym (play_none s d m (nothing d.rest a))
  enough (suc n) zero d a b = play_none s d (suc n) (nothing d.rest b) ∙ sym (play_none s d zero (nothing d.rest b))
  enough (suc n) (suc m) d a b = by_test (whole d.rest)
      (λ y. let less = next_short d y in
      play_on s d n y ∙ ap (after (next_line s d)) (enough n m (next s d) (omega arith) (omega arith)) ∙ sym (play_on s d m y))
      (λ f. play_none s d (suc n) f ∙ sym (play_none s d (suc m) f))

  -- fed and played, or played, fed and played on
  module _ (b : List ℕ) where
    idle : (k n : ℕ) (d : Stand) → whole d.rest ≡ false → length (fed d b).rest ≤ n
        → play_in n s (fed d b) ≡ after (play_in k s d).text (play s (fed (play_in k s d).stand b))
    unfolding play
    idle k n d f h = rw (play_none s d k f) (enough n (length (fed d b).rest) (fed d b) h (omega arith))

    at_once : (k n : ℕ) (d : Stand) → length d.rest ≤ k → length (fed d b).rest ≤ n
        → play_in n s (fed d b) ≡ after (play_in k s d).text (play s (fed (play_in k s d).stand b))
    at_once zero n d a h = idle zero n d (nothing d.rest a) h
    at_once (suc k) zero d a h = idle (suc k) zero d (nothing d.rest (omega (arith, length-append d.rest b))) h
    at_once (suc k) (suc n) d a h = by_test (whole d.rest)
        (λ y. let less = next_short d y in
        let rest = at_once k n (next s d) (omega arith) (omega (arith, length-append (next s d).rest b, length-append d.rest b)) in
        play_on s (fed d b) n (whole_same d.rest b y)
        ∙ rw (line_same d b y, next_same d b y, play_on s d k y, append_assoc (next_line s d) (play_in k s (next s d)).text _)
        (ap (after (next_line s d)) rest))
        (λ f. idle (suc k) (suc n) d f h)

  play_fed : (d : Stand) (b : List ℕ) → play s (fed d b) ≡ after (play s d).text (play s (fed (play s d).stand b))
  unfolding play
  play_fed d b = at_once b (length d.rest) (length (fed d b).rest) d (omega arith) (omega arith)

  -- all that was whole is played
  played_out : (k : ℕ) (d : Stand) → length d.rest ≤ k → whole (play_in k s d).stand.rest ≡ false
  played_out zero d a = rw (play_none s d zero (nothing d.rest a)) (nothing d.rest a)
  played_out (suc k) d a = by_test (whole d.rest)
      (λ y. let less = next_short d y in rw (play_on s d k y) (played_out k (next s d) (omega arith)))
      (λ f. rw (play_none s d (suc k) f) f)

  still_there : (d : Stand) → whole (play s d).stand.rest ≡ false
  unfolding play
  still_there d = played_out (length d.rest) d (omega arith)

  nothing_fed : (d : Stand) → whole d.rest ≡ false → play s (fed d []) ≡ still d
  unfolding play
  nothing_fed d f = rw (append-nil d.rest) (play_none s d (length d.rest) f)

  pub in_blocks : (bs : List (List ℕ)) (d : Stand) → whole d.rest ≡ false → play_blocks bs s d ≡ play s (fed d (flatten bs))
  unfolding play_blocks flatten
  in_blocks [] d f = sym (nothing_fed d f)
  in_blocks (b ∷ bs) d f =
      ap (after (play s (fed d b)).text) (in_blocks bs (play s (fed d b)).stand (still_there (fed d b)))
      ∙ sym (play_fed (fed d b) (flatten bs))
      ∙ rw (append_assoc d.rest b (flatten bs))
