-- A station's state: its two parts, its lengths, and its rules as facts.
use Prim.Native.Nat.{ℕ, ◌-◌, ◌/◌, ◌≤◌, ◌<◌}
use native.Mathlib.Omega.{arith}
use mathlib.Core.Path.{◌≡◌, ap, ◌∙◌}
use mathlib.Core.Bool.{true, false, ◌&&◌}
use mathlib.Core.List.{List, ◌++◌}
use lib.Dec.{eqb}
use lib.ListN.{length, get_or, take, drop, take-append-drop, length-append, length-drop}
use lib.Seq.{length-take-le, take_at, drop_at}
use borrow.Author.Tests.{eqb-true, eq-eqb, ne_eqb}
use Rattle.rows.proofs.BoolLaws.{and_left, and_right}
use Rattle.station.specs.State.{list_of, wait_of, place_count, code_in}
use Rattle.station.specs.Good.{limit, state_length, good_list, good_wait, good_state}

-- the two parts of a state, and a state made of two parts
pub list_long : (st : List ℕ) → length (list_of st) ≡ length st - 15
unfolding list_of
list_long st = length-take-le (length st - 15) st (omega arith)

pub wait_long : (st : List ℕ) → 15 ≤ length st → length (wait_of st) ≡ 15
unfolding wait_of
wait_long st h = length-drop (length st - 15) st ∙ omega arith

module _ (l v : List ℕ) (long : length v ≡ 15) where
  seam : length l ≡ length (l ++ v) - 15
  seam = omega (arith, length-append l v)

  pub list_of_lem : list_of (l ++ v) ≡ l
  unfolding list_of
  list_of_lem = take_at l v (length (l ++ v) - 15) seam

  pub wait_of_lem : wait_of (l ++ v) ≡ v
  unfolding wait_of
  wait_of_lem = drop_at l v (length (l ++ v) - 15) seam

-- a good state
pub record GoodState (st : List ℕ) : Type 0 where
  pub sized : length st ≡ state_length
  pub list : good_list limit (list_of st) ≡ true
  pub wait : good_wait (wait_of st) ≡ true

pub state_is : (st : List ℕ) → good_state st ≡ true → GoodState st
unfolding good_state
state_is st h =
    let z = eqb (length st) state_length in
    let l = good_list limit (list_of st) in
    let w = good_wait (wait_of st) in
    let h₁ = and_right z (l && w) h in
    record { sized = eqb-true _ _ (and_left z (l && w) h); list = and_left l w h₁; wait = and_right l w h₁ }

pub is_state : (st : List ℕ) → GoodState st → good_state st ≡ true
unfolding good_state
is_state st g = rw (eq-eqb _ _ g.sized, g.list, g.wait)

-- fewer bytes than a frame awaited has are no good state
pub too_short : (st : List ℕ) → length st < 15 → good_state st ≡ false
unfolding good_state
too_short st few = rw (ne_eqb (length st) state_length (λ e. absurd (omega (arith, e, few))))

-- the parts that a state is split into make it again, and it keeps the rules just where both do
module _ (st : List ℕ) {l v : List ℕ} (e : l ≡ take (length st - 15) st) (f : v ≡ drop (length st - 15) st) where
  pub parts_make : l ++ v ≡ st
  parts_make = rw (e, f) (take-append-drop (length st - 15) st)

module _ (l v : List ℕ) (long : length v ≡ 15) where
  pub parts_other : (length l ≡ 896 → ⊥) → good_state (l ++ v) ≡ false
  unfolding good_state
  parts_other ne = rw (ne_eqb (length (l ++ v)) state_length (λ e. ne (omega (arith, e, length-append l v))))

  pub parts_sized : length l ≡ 896 → good_state (l ++ v) ≡ (good_list (place_count l) l && good_wait v)
  unfolding good_state
  parts_sized sized =
      let whole : length (l ++ v) ≡ state_length = omega (arith, sized, length-append l v) in
      let places : place_count l ≡ limit = ap (λ (k : ℕ). k / 14) sized in
      rw (eq-eqb _ _ whole, places, list_of_lem l v long, wait_of_lem l v long)

  -- its code is the first byte of the frame awaited
  pub parts_code : code_in (wait_of (l ++ v)) ≡ get_or v 0 0
  unfolding code_in
  parts_code = rw (wait_of_lem l v long)
