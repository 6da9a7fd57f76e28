-- The laws of specs/Reading.antt: what a frame that is not refused is.
use Prim.Native.Nat.{ℕ}
use native.Mathlib.Omega.{arith}
use mathlib.Core.Path.{◌≡◌, refl, sym, ap, ◌∙◌}
use mathlib.Core.Bool.{Bool, true, false, cond, not, ◌&&◌}
use mathlib.Core.List.{List}
use lib.Dec.{eqb}
use lib.ListN.{length, get_or}
use borrow.Author.Tests.{eqb-true, eqb-false, eq-eqb, ne_eqb, not-false}
use Rattle.rows.proofs.BoolLaws.{by_test, by_eq}
use Rattle.frames.specs.Table.{frame_length, carries_address}
use Rattle.frames.specs.Requests.{plain}
use Rattle.terms.specs.Strings.{string_at}
use Rattle.frames.specs.Reading.{code, refusal_of, named_in, login_in, string_request, request_in, reading_of}
use Rattle.frames.specs.Writing.{code_of}
use Rattle.frames.proofs.TableLaws.{Code, acknowledge, read, write, login, assign, lock, unlock, clear, logout, code_is}

-- what the tests of a frame that is not refused say: its code and its length are in the table, and dtn is 0
pub record Well (f : List ℕ) : Type 0 where
  pub known : frame_length (code f) ≡ 0 → ⊥
  pub long : length f ≡ frame_length (code f)
  pub dtn : carries_address (code f) ≡ true → get_or f 1 0 ≡ 0

-- where nothing is refused, the tests for 3, 4 and 6 fail
record None (b c d : Bool) : Type 0 where
  no_3 : b ≡ false
  no_4 : c ≡ false
  no_6 : d ≡ false

none_holds : (a b c d : Bool) → ◌≡◌ {A = ℕ} (cond a 1 (cond b 3 (cond c 4 (cond d 6 0)))) 0 → None b c d
none_holds true b c d h = absurd (omega arith)
none_holds false true c d h = absurd (omega arith)
none_holds false false true d h = absurd (omega arith)
none_holds false false false true h = absurd (omega arith)
none_holds false false false false h = record { no_3 = refl; no_4 = refl; no_6 = refl }

-- where a conjunction fails and its first part holds
second_fails : (a b : Bool) → (a && not b) ≡ false → a ≡ true → b ≡ true
second_fails true b h t = not-false b h
second_fails false true h t = refl
second_fails false false h t = t

-- a frame that is not refused is well, and the other way
pub well_is : (f : List ℕ) → refusal_of f ≡ 0 → Well f
unfolding refusal_of
well_is f h =
    let t = none_holds (eqb (length f) 0) (eqb (frame_length (code f)) 0) (not (eqb (length f) (frame_length (code f)))) (carries_address (code f) && not (eqb (get_or f 1 0) 0)) h in
    record {
      known = eqb-false _ _ t.no_3;
      long = eqb-true _ _ (not-false _ t.no_4);
      dtn = λ y. eqb-true _ _ (second_fails (carries_address (code f)) (eqb (get_or f 1 0) 0) t.no_6 y);
    }

pub is_well : (f : List ℕ) → Well f → refusal_of f ≡ 0
unfolding refusal_of
is_well f w =
    rw (ne_eqb (length f) 0 (λ e. w.known (sym w.long ∙ e)), ne_eqb (frame_length (code f)) 0 w.known, eq-eqb (length f) (frame_length (code f)) w.long)
    (by_test (carries_address (code f)) (λ y. rw (y, w.dtn y)) (λ n. rw n))

-- the length of a frame that is not refused, by its code
pub well_long : (f : List ℕ) (k : ℕ) → refusal_of f ≡ 0 → code f ≡ k → length f ≡ frame_length k
well_long f k h e = (well_is f h).long ∙ ap frame_length e

-- the command of a frame has the frame's code
pub code_kept : (f : List ℕ) → refusal_of f ≡ 0 → code_of (request_in f).command ≡ code f
unfolding code_of request_in named_in login_in string_request string_at plain
code_kept f h = go (code_is (code f) (well_is f h).known)
  where
    go : Code (code f) → code_of (request_in f).command ≡ code f
    go (acknowledge e) = rw e
    go (read e) = rw e
    go (write e) = rw e
    go (login e) = rw e
    go (assign e) = rw e
    go (lock e) = rw e
    go (unlock e) = rw e
    go (clear e) = rw e
    go (logout e) = rw e

-- what a frame is refused with, test by test
module _ (f : List ℕ) where
  pub empty_1 : length f ≡ 0 → refusal_of f ≡ 1
  unfolding refusal_of
  empty_1 e = rw (eq-eqb _ _ e)

  module _ (full : length f ≡ 0 → ⊥) where
    pub unknown_3 : frame_length (code f) ≡ 0 → refusal_of f ≡ 3
    unfolding refusal_of
    unknown_3 e = rw (ne_eqb _ _ full, eq-eqb _ _ e)

    module _ (known : frame_length (code f) ≡ 0 → ⊥) where
      pub long_4 : (length f ≡ frame_length (code f) → ⊥) → refusal_of f ≡ 4
      unfolding refusal_of
      long_4 n = rw (ne_eqb _ _ full, ne_eqb (frame_length (code f)) 0 known, ne_eqb (length f) (frame_length (code f)) n)

      pub dtn_6 : length f ≡ frame_length (code f) → carries_address (code f) ≡ true → (get_or f 1 0 ≡ 0 → ⊥) → refusal_of f ≡ 6
      unfolding refusal_of
      dtn_6 e a n = rw (ne_eqb _ _ full, ne_eqb (frame_length (code f)) 0 known, eq-eqb (length f) (frame_length (code f)) e, a, ne_eqb (get_or f 1 0) 0 n)

  -- what the reading tells
  pub reading_refuses : (reading_of f).refusal ≡ refusal_of f
  unfolding reading_of
  reading_refuses = by_eq (refusal_of f) 0 (λ z. rw z) (λ n. rw (ne_eqb (refusal_of f) 0 n))

  pub reading_gives : refusal_of f ≡ 0 → (reading_of f).request ≡ request_in f
  unfolding reading_of
  reading_gives z = rw z
