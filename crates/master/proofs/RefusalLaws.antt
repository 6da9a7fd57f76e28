-- The tests of a frame as facts.
use Prim.Native.Nat.{ℕ, ◌<◌}
use native.Mathlib.Omega.{arith}
use mathlib.Core.Path.{◌≡◌, refl, sym, ◌∙◌}
use mathlib.Core.Logic.{◌⊎◌, inl, inr, ⊎_elim}
use mathlib.Core.Bool.{Bool, true, false, cond, not, ◌&&◌, ◌||◌}
use mathlib.Core.List.{List}
use lib.Dec.{eqb}
use lib.ListN.{length, get_or}
use borrow.Author.Tests.{eq-eqb, ne_eqb, not-false}
use Rattle.rows.proofs.BoolLaws.{by_test, by_eq, both, or_rest, either}
use Rattle.frames.specs.Table.{LOGIN, LOGOUT, frame_length, carries_address}
use Rattle.refusals.specs.declared.Refusal.{Refusal}
use Rattle.refusals.specs.Refusals.{number}
use Rattle.refusals.proofs.OutcomeLaws.{number_never_0}
use Rattle.frames.specs.Requests.{plain}
use Rattle.frames.specs.Reading.{code, named_in, login_in, string_request, request_in, refusal_of, address_in}
use Rattle.frames.proofs.ReadLaws.{empty_1, unknown_3, long_4}
use Rattle.frames.proofs.TableLaws.{Code as Coded, acknowledge, read, write, login, assign, lock, unlock, clear, logout, code_is}
use Rattle.site.specs.Rules.{good_site}
use Rattle.site.specs.Places.{placed_in}
use Rattle.site.proofs.PlaceLaws.{placed_low}
use Rattle.who.specs.Logins.{logged_in}
use Rattle.who.proofs.WhoLaws.{logged_below}
use Rattle.master.specs.Tables.{good_tables}
use Rattle.master.specs.Refusals.{ANYBODY, unknown, misplaced, src_differs, place_refusal, frame_tests, frame_refusal, refusal}
use Rattle.master.specs.Inner.{sent_elsewhere}

-- a row of seven tests and what comes last
tests : Bool → Bool → Bool → Bool → Bool → Bool → Bool → ℕ → ℕ
tests a b c d e g h x = cond a 1 (cond b 2 (cond c 3 (cond d 4 (cond e 5 (cond g 6 (cond h 7 x))))))

-- where nothing is refused, all seven fail
record None (a b c d e g h : Bool) : Type 0 where
  no_1 : a ≡ false
  no_2 : b ≡ false
  no_3 : c ≡ false
  no_4 : d ≡ false
  no_5 : e ≡ false
  no_6 : g ≡ false
  no_7 : h ≡ false

none_holds : (a b c d e g h : Bool) → tests a b c d e g h 0 ≡ 0 → None a b c d e g h
unfolding tests
none_holds true b c d e g h z = absurd (omega arith)
none_holds false true c d e g h z = absurd (omega arith)
none_holds false false true d e g h z = absurd (omega arith)
none_holds false false false true e g h z = absurd (omega arith)
none_holds false false false false true g h z = absurd (omega arith)
none_holds false false false false false true h z = absurd (omega arith)
none_holds false false false false false false true z = absurd (omega arith)
none_holds false false false false false false false z = record { no_1 = refl; no_2 = refl; no_3 = refl; no_4 = refl; no_5 = refl; no_6 = refl; no_7 = refl }

one_holds : (a b c d e g h : Bool) (x : ℕ) → (tests a b c d e g h 0 ≡ 0 → ⊥) → tests a b c d e g h x ≡ tests a b c d e g h 0
unfolding tests
one_holds true b c d e g h x z = refl
one_holds false true c d e g h x z = refl
one_holds false false true d e g h x z = refl
one_holds false false false true e g h x z = refl
one_holds false false false false true g h x z = refl
one_holds false false false false false true h x z = refl
one_holds false false false false false false true x z = refl
one_holds false false false false false false false x z = absurd (z refl)

-- the test of a number, by whether it is logged in
pub unknown_is : (inside : ℕ → Bool) (n : ℕ) {b : Bool} → b ≡ inside n → unknown inside n ≡ not (eqb n ANYBODY || b)
unfolding unknown
unknown_is inside n e = rw e

-- a frame that reading refuses with none of its four numbers reads well
pub reads_well : (f : List ℕ) → eqb (refusal_of f) 1 ≡ false → eqb (refusal_of f) 3 ≡ false → eqb (refusal_of f) 4 ≡ false → eqb (refusal_of f) 6 ≡ false → refusal_of f ≡ 0
unfolding refusal_of
reads_well f = go (eqb (length f) 0) (eqb (frame_length (code f)) 0) (not (eqb (length f) (frame_length (code f)))) (carries_address (code f) && not (eqb (get_or f 1 0) 0))
  where
    number : Bool → Bool → Bool → Bool → ℕ
    number a b c d = cond a 1 (cond b 3 (cond c 4 (cond d 6 0)))

    go : (a b c d : Bool) → eqb (number a b c d) 1 ≡ false → eqb (number a b c d) 3 ≡ false → eqb (number a b c d) 4 ≡ false → eqb (number a b c d) 6 ≡ false → number a b c d ≡ 0
    go true b c d p q r s = both refl p
    go false true c d p q r s = both refl q
    go false false true d p q r s = both refl r
    go false false false true p q r s = both refl s
    go false false false false p q r s = refl

module _ (n : ℕ) (f w : List ℕ) where
  -- what the tests of a frame that none of 1 to 7 refuses say
  pub record Passed : Type 0 where
    pub reads : refusal_of f ≡ 0
    pub number : unknown (logged_in w) n ≡ false
    pub seat : misplaced n (code f) ≡ false
    pub src : src_differs n f ≡ false

  pub passed : frame_tests n f w 0 ≡ 0 → Passed
  unfolding frame_tests tests
  passed z =
      let t = none_holds (eqb (refusal_of f) 1) (unknown (logged_in w) n) (eqb (refusal_of f) 3) (eqb (refusal_of f) 4) (misplaced n (code f)) (eqb (refusal_of f) 6) (src_differs n f) z in
      record { reads = reads_well f t.no_1 t.no_3 t.no_4 t.no_6; number = t.no_2; seat = t.no_5; src = t.no_7 }

  -- then what comes last decides
  pub tests_pass : (x : ℕ) → Passed → frame_tests n f w x ≡ x
  unfolding frame_tests
  tests_pass x p = rw (p.reads, p.number, p.seat, p.src)

  -- and where one of them holds, what comes last does not matter
  pub tests_stop : (x : ℕ) → (frame_tests n f w 0 ≡ 0 → ⊥) → frame_tests n f w x ≡ frame_tests n f w 0
  unfolding frame_tests tests
  tests_stop x z = one_holds (eqb (refusal_of f) 1) (unknown (logged_in w) n) (eqb (refusal_of f) 3) (eqb (refusal_of f) 4) (misplaced n (code f)) (eqb (refusal_of f) 6) (src_differs n f) x z

  -- 10 and 11 are never among them
  pub tests_low : (x : ℕ) → x < 10 → frame_tests n f w x < 10
  unfolding frame_tests
  tests_low x l =
      either (eqb (refusal_of f) 1) 1 _ (omega arith)
      (either (unknown (logged_in w) n) 2 _ (omega arith)
      (either (eqb (refusal_of f) 3) 3 _ (omega arith)
      (either (eqb (refusal_of f) 4) 4 _ (omega arith)
      (either (misplaced n (code f)) 5 _ (omega arith)
      (either (eqb (refusal_of f) 6) 6 _ (omega arith)
      (either (src_differs n f) 7 x (omega arith) l))))))

  pub frame_low : (s : List ℕ) → frame_refusal n f s w < 10
  unfolding frame_refusal place_refusal
  frame_low s = tests_low (place_refusal f s) (either (carries_address (code f)) (placed_in s (address_in f)).refusal 0 (placed_low s (address_in f)) (omega arith))

  -- so that 10 is told for a bad site file alone
  pub ten_is_site : (s t : List ℕ) → refusal n f s t w ≡ 10 → good_site s ≡ false
  unfolding refusal
  ten_is_site s t e = by_test (good_tables t w)
      (λ g. by_test (good_site s) (λ y. let lie : frame_refusal n f s w ≡ 10 = rw (g, y) at e in absurd (omega (arith, frame_low s))) (λ m. m))
      (λ g. let lie : ◌≡◌ {A = ℕ} 11 10 = rw g at e in absurd (omega arith))

  -- the number is known, and only a login is served at 253
  module _ (sized : length w ≡ 1152) (p : Passed) where
    seated : (n ≡ ANYBODY → ⊥) → logged_in w n ≡ true
    unfolding unknown
    seated ne = or_rest (eqb n ANYBODY) (logged_in w n) (not-false _ p.number) (ne_eqb n ANYBODY ne)

    pub number_small : n < 256
    number_small = by_eq n ANYBODY (λ e. omega arith) (λ ne. omega (arith, logged_below w sized n (seated ne)))

    pub seat_in : eqb (code f) LOGIN ≡ false → logged_in w n ≡ true
    unfolding misplaced
    seat_in h = seated (λ e. both (eq-eqb n ANYBODY e) (first (eqb n ANYBODY) (eqb (code f) LOGOUT && eqb n 0) (rw h at p.seat)))
      where
        first : (a b : Bool) → (a || b) ≡ false → a ≡ false
        first true b q = q
        first false b q = refl

-- the tests as they are made, one after the other
module _ (n : ℕ) (f w : List ℕ) where
  pub test_1 : length f ≡ 0 → frame_tests n f w 0 ≡ 1
  unfolding frame_tests
  test_1 e = rw (empty_1 f e)

  module _ (some : length f ≡ 0 → ⊥) where
    not_1 : eqb (refusal_of f) 1 ≡ false
    unfolding refusal_of
    not_1 = rw (ne_eqb (length f) 0 some) (other (eqb (frame_length (code f)) 0) (not (eqb (length f) (frame_length (code f)))) (carries_address (code f) && not (eqb (get_or f 1 0) 0)))
      where
        other : (b c d : Bool) → eqb (cond b 3 (cond c 4 (cond d 6 0))) 1 ≡ false
        other true c d = refl
        other false true d = refl
        other false false true = refl
        other false false false = refl

    pub test_2 : unknown (logged_in w) n ≡ true → frame_tests n f w 0 ≡ 2
    unfolding frame_tests
    test_2 y = rw (not_1, y)

    module _ (known : unknown (logged_in w) n ≡ false) where
      pub test_3 : frame_length (code f) ≡ 0 → frame_tests n f w 0 ≡ 3
      unfolding frame_tests
      test_3 e = rw (unknown_3 f some e, known)

      module _ (coded : frame_length (code f) ≡ 0 → ⊥) where
        pub test_4 : (length f ≡ frame_length (code f) → ⊥) → frame_tests n f w 0 ≡ 4
        unfolding frame_tests
        test_4 ne = rw (long_4 f some coded ne, known)

        module _ (long : length f ≡ frame_length (code f)) where
          -- reading refuses 6 alone
          late : (refusal_of f ≡ 0) ⊎ (refusal_of f ≡ 6)
          unfolding refusal_of
          late = by_test (carries_address (code f) && not (eqb (get_or f 1 0) 0))
              (λ y. inr (rw (ne_eqb _ _ some, ne_eqb _ _ coded, eq-eqb _ _ long, y)))
              (λ m. inl (rw (ne_eqb _ _ some, ne_eqb _ _ coded, eq-eqb _ _ long, m)))

          pub test_5 : misplaced n (code f) ≡ true → frame_tests n f w 0 ≡ 5
          unfolding frame_tests
          test_5 y = ⊎_elim (λ (e : refusal_of f ≡ 0). rw (e, known, y)) (λ (e : refusal_of f ≡ 6). rw (e, known, y)) late

          module _ (seat : misplaced n (code f) ≡ false) where
            pub test_6 : (r : Refusal) → refusal_of f ≡ number r → frame_tests n f w 0 ≡ number r
            unfolding frame_tests
            test_6 r e = ⊎_elim
                (λ (z : refusal_of f ≡ 0). absurd (number_never_0 r (sym e ∙ z)))
                (λ (six : refusal_of f ≡ 6). rw (six, known, seat) (sym six ∙ e))
                late

            pub test_7 : refusal_of f ≡ 0 → src_differs n f ≡ true → frame_tests n f w 0 ≡ 7
            unfolding frame_tests
            test_7 z y = rw (z, known, seat, y)

            pub test_none : refusal_of f ≡ 0 → src_differs n f ≡ false → frame_tests n f w 0 ≡ 0
            unfolding frame_tests
            test_none z m = rw (z, known, seat, m)

-- the src of the request is that of the frame
pub elsewhere_is : (n : ℕ) (f : List ℕ) → (frame_length (code f) ≡ 0 → ⊥) → sent_elsewhere n (request_in f).command ≡ src_differs n f
unfolding sent_elsewhere src_differs request_in carries_address plain login_in named_in string_request
elsewhere_is n f known = go (code_is (code f) known)
  where
    go : Coded (code f) → sent_elsewhere n (request_in f).command ≡ src_differs n f
    go (acknowledge e) = rw e
    go (read e) = rw e
    go (write e) = rw e
    go (login e) = rw e
    go (assign e) = rw e
    go (lock e) = rw e
    go (unlock e) = rw e
    go (clear e) = rw e
    go (logout e) = rw e
