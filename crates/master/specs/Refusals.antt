-- The refusals of a frame, in order: 11, 10, then 1 to 9. n is the number polled, f the frame, s the site file, t and w the tables.
use Rattle.std.specs.Prelude.{ℕ, Bool, cond, not, ◌&&◌, ◌||◌, List, eqb, get_or}
use Rattle.frames.specs.Table.{LOGIN, LOGOUT, carries_address}
use Rattle.frames.specs.Reading.{code, refusal_of, address_in}
use Rattle.site.specs.Rules.{good_site}
use Rattle.site.specs.Places.{placed_in}
use Rattle.who.specs.Logins.{logged_in}
use Rattle.master.specs.Tables.{good_tables}

-- where a station without a number is polled
abbrev pub ANYBODY : ℕ
ANYBODY = 253

-- 2: the number is not 0 to 63 or 253, or is 0 to 63 and not logged in. `inside` says who is logged in
unfoldable pub unknown : (ℕ → Bool) → ℕ → Bool
unknown inside n = not (eqb n ANYBODY || inside n)

-- 5: login not at 253; another command at 253; logout at 0
unfoldable pub misplaced : ℕ → ℕ → Bool
misplaced n c = cond (eqb c LOGIN) (not (eqb n ANYBODY)) (eqb n ANYBODY || (eqb c LOGOUT && eqb n 0))

-- 7: src differs from the number polled; it stands after dtn, and in a logout after the code
unfoldable pub src_differs : ℕ → List ℕ → Bool
src_differs n f =
    cond (carries_address (code f)) (not (eqb (get_or f 2 0) n))
    (eqb (code f) LOGOUT && not (eqb (get_or f 1 0) n))

-- 8 volume and partition name no row, 9 track or sector outside the partition
unfoldable pub place_refusal : List ℕ → List ℕ → ℕ
place_refusal f s = cond (carries_address (code f)) (placed_in s (address_in f)).refusal 0

-- 1 to 7 in this order, and then what `last` says; 1, 3, 4 and 6 are what reading the frame refuses
unfoldable pub frame_tests : ℕ → List ℕ → List ℕ → ℕ → ℕ
frame_tests n f w last =
    cond (eqb (refusal_of f) 1) 1
    (cond (unknown (logged_in w) n) 2
    (cond (eqb (refusal_of f) 3) 3
    (cond (eqb (refusal_of f) 4) 4
    (cond (misplaced n (code f)) 5
    (cond (eqb (refusal_of f) 6) 6
    (cond (src_differs n f) 7
    last))))))

-- 1 to 9 in this order, or 0
unfoldable pub frame_refusal : ℕ → List ℕ → List ℕ → List ℕ → ℕ
frame_refusal n f s w = frame_tests n f w (place_refusal f s)

-- 11 the tables, 10 the site file, then as above
unfoldable pub refusal : ℕ → List ℕ → List ℕ → List ℕ → List ℕ → ℕ
refusal n f s t w =
    cond (not (good_tables t w)) 11
    (cond (not (good_site s)) 10
    (frame_refusal n f s w))
