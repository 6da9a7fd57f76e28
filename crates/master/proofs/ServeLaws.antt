-- The cases of serving a frame, one law each.
use Prim.Native.Nat.{ℕ}
use native.Mathlib.Omega.{arith}
use mathlib.Core.Path.{◌≡◌, refl, ◌∙◌}
use mathlib.Core.Bool.{true, false}
use mathlib.Core.Logic.{◌⊎◌, inl, inr, ⊎_elim}
use mathlib.Core.List.{List}
use lib.Dec.{eqb}
use lib.ListN.{get_or}
use borrow.Author.Tests.{eqb-true, ne_eqb}
use Rattle.rows.proofs.BoolLaws.{by_test, by_eq, or_rest}
use Rattle.std.specs.Prelude.{Result, Err}
use Rattle.frames.specs.declared.Command.TheVariants.{Read, Write}
use Rattle.frames.specs.Table.{READ, WRITE, carries_address}
use Rattle.frames.specs.Requests.{plain}
use Rattle.frames.specs.Reading.{code, address_in, request_in}
use Rattle.site.specs.Rules.{good_site}
use Rattle.site.specs.Places.{placed_in}
use Rattle.site.specs.Faults.{first_fault}
use Rattle.site.proofs.PlaceLaws.{placed_low}
use Rattle.refusals.specs.declared.Refusal.{Refusal}
use Rattle.refusals.specs.Refusals.{number}
use Rattle.refusals.proofs.OutcomeLaws.{number_never_0}
use Rattle.site.specs.declared.Refused.{Refused}
use Rattle.site.specs.declared.Refused.TheVariants.{Site, By}
use Rattle.master.specs.declared.Answer.{Answer}
use Rattle.master.specs.Tables.{good_tables}
use Rattle.master.specs.Answers.{refuses, fault_told, told}
use Rattle.master.specs.Refusals.{place_refusal, frame_tests, frame_refusal, refusal}
use Rattle.master.specs.Frames.{place_told, refusal_told, Serves, effect_of, request_effect, frame_effect}
use Rattle.master.proofs.RefusalLaws.{passed, tests_pass, tests_stop}
use Rattle.master.specs.Effects.{telling}
use Rattle.master.specs.Inner.{Performs}
use Rattle.master.proofs.EffectLaws.{refusing_so}

-- a frame with an address is a read or a write of it
address_command : (f : List ℕ) → carries_address (code f) ≡ true → (request_in f ≡ plain (Read (get_or f 2 0) (address_in f))) ⊎ (request_in f ≡ plain (Write (get_or f 2 0) (address_in f)))
unfolding carries_address request_in
address_command f y = by_eq (code f) READ
    (λ e. inl (rw e))
    (λ n. inr (rw (eqb-true (code f) WRITE (or_rest (eqb (code f) READ) (eqb (code f) WRITE) y (ne_eqb (code f) READ n)))))

module _ (n : ℕ) (f s t w : List ℕ) where
  -- a refused frame, by its number; a bad site file, with its fault
  pub serves_refused : (r : Refusal) → refusal n f s t w ≡ number r → (number r ≡ 10 → ⊥) → Serves n f s t w (Err (By r)) t w
  unfolding frame_effect refusal_told told
  serves_refused r e no-site = rw (e, ne_eqb (number r) 10 no-site) (refusing_so (number r) (refuses (number r)) t w _ (number_never_0 r))

  pub serves_faulty : refusal n f s t w ≡ 10 → Serves n f s t w (Err (Site (first_fault s))) t w
  unfolding frame_effect refusal_told told
  serves_faulty e = rw e (refusing_so 10 (fault_told (first_fault s)) t w (request_effect (request_in f) n s t w) (λ z. omega arith))

  pub bad_tables : good_tables t w ≡ false → refusal n f s t w ≡ 11
  unfolding refusal
  bad_tables h = rw h

  module _ (tables : good_tables t w ≡ true) where
    pub bad_site : good_site s ≡ false → refusal n f s t w ≡ 10
    unfolding refusal
    bad_site h = rw (tables, h)

    module _ (site : good_site s ≡ true) where
      past_both : refusal n f s t w ≡ frame_refusal n f s w
      unfolding refusal
      past_both = rw (tables, site)

      -- 1 to 7
      pub stops : (frame_tests n f w 0 ≡ 0 → ⊥) → refusal n f s t w ≡ frame_tests n f w 0
      unfolding frame_refusal
      stops z = past_both ∙ tests_stop n f w (place_refusal f s) z

      -- a frame that passes these does what its command does
      module _ (z : frame_tests n f w 0 ≡ 0) where
        last : refusal n f s t w ≡ place_refusal f s
        unfolding frame_refusal
        last = past_both ∙ tests_pass n f w (place_refusal f s) (passed n f w z)

        -- 8 and 9 stand in the answer of the place, and nothing changes
        place_told_lem : (k : ℕ) → (placed_in s (address_in f)).refusal ≡ k → (k ≡ 0 → ⊥) → place_told (placed_in s (address_in f)) ≡ refuses k
        unfolding place_told
        place_told_lem k e ne = rw (e, ne_eqb k 0 ne)

        refused_place : carries_address (code f) ≡ true → (k : ℕ) → (placed_in s (address_in f)).refusal ≡ k → (k ≡ 0 → ⊥) → telling (refuses k) t w ≡ request_effect (request_in f) n s t w
        unfolding request_effect effect_of plain
        refused_place y k e ne = ⊎_elim
            (λ (q : request_in f ≡ plain (Read (get_or f 2 0) (address_in f))). rw (q, place_told_lem k e ne))
            (λ (q : request_in f ≡ plain (Write (get_or f 2 0) (address_in f))). rw (q, place_told_lem k e ne))
            (address_command f y)

        same_effect : frame_effect n f s t w ≡ request_effect (request_in f) n s t w
        unfolding frame_effect refusal_told place_refusal
        same_effect = by_test (carries_address (code f))
            (λ y. by_eq (placed_in s (address_in f)).refusal 0
            (λ e. let none : refusal n f s t w ≡ 0 = last ∙ rw (y, e) in rw none)
            (λ ne.
            let some : refusal n f s t w ≡ (placed_in s (address_in f)).refusal = last ∙ rw y in
            rw (some, ne_eqb (placed_in s (address_in f)).refusal 0 ne, ne_eqb (placed_in s (address_in f)).refusal 10 (λ e. omega (arith, placed_low s (address_in f)))) (refused_place y (placed_in s (address_in f)).refusal refl ne)))
            (λ no_address. let none : refusal n f s t w ≡ 0 = last ∙ rw no_address in rw none)

        pub serves_done : (r : Result Answer Refused) (t' w' : List ℕ) → Performs (request_in f) n s t w r t' w' → Serves n f s t w r t' w'
        serves_done r t' w' p = rw same_effect p
