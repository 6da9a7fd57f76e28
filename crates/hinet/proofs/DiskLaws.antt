-- A read or a write that the C program wrote from numbers and sent under its own number: the master answers it with the place of
-- those numbers, however large they are.
use Prim.Native.Nat.{ℕ, ◌<◌}
use native.Mathlib.Omega.{arith}
use mathlib.Core.Path.{◌≡◌, refl, sym, ap, ◌∙◌}
use mathlib.Core.Bool.{true, false}
use mathlib.Core.List.{List, ◌∷◌}
use lib.ListN.{length, get_or, length-append}
use borrow.Author.Tests.{eq-eqb, ne_eqb}
use Rattle.rows.proofs.BoolLaws.{by_test, by_eq, both}
use Rattle.rows.proofs.NumberLaws.{length_low_bytes}
use Rattle.rows.specs.Outcomes.{Gives}
use Rattle.frames.specs.declared.Command.TheVariants.{Read, Write}
use Rattle.frames.specs.Table.{READ, WRITE, carries_address}
use Rattle.frames.specs.Requests.{plain}
use Rattle.frames.specs.Reading.{code, refusal_of, address_in, request_in}
use Rattle.frames.specs.Writing.{address_fields, code_of, fields_of, frame_of}
use Rattle.frames.proofs.TableLaws.{address_long}
use Rattle.frames.proofs.ReadLaws.{is_well}
use Rattle.frames.proofs.FieldLaws.{address_reads}
use Rattle.site.specs.Rules.{good_site}
use Rattle.site.specs.Places.{placed_in, placed_by}
use Rattle.site.specs.Faults.{first_fault}
use Rattle.site.proofs.PlaceLaws.{placed_low}
use Rattle.who.specs.Logins.{logged_in}
use Rattle.master.specs.Refusals.{ANYBODY, unknown, misplaced, src_differs, place_refusal, frame_tests, frame_refusal, refusal}
use Rattle.master.specs.Tables.{good_tables}
use Rattle.master.specs.Answers.{refuses, fault_told}
use Rattle.master.specs.Frames.{place_told, effect_of, request_effect, refusal_told, frame_effect}
use Rattle.master.proofs.PollLaws.{polled_below}
use Rattle.hinet.specs.Packing.{word}
use Rattle.hinet.specs.Entries.{address_of, located_told, place_word, Served}
use Rattle.hinet.specs.FrameEntries.{byte_field, fields_for, disk_of}
use Rattle.hinet.proofs.PlaceLaws.{fields_placed}

module _ (n : ℕ) (s t w : List ℕ) (good : good_tables t w ≡ true) (inside : logged_in w n ≡ true) where
  small : n < 64
  small = polled_below n t w good inside

  -- a frame that reads well, with an address and this src
  module _ (f : List ℕ) (well : refusal_of f ≡ 0) (carries : carries_address (code f) ≡ true) (own : get_or f 2 0 ≡ n) where
    in_place : misplaced n (code f) ≡ false
    unfolding misplaced carries_address
    in_place = by_eq (code f) READ (λ (e : code f ≡ READ). rw (e, ne_eqb n ANYBODY (λ z. omega (arith, small)))) λ r.
        by_eq (code f) WRITE (λ (e : code f ≡ WRITE). rw (e, ne_eqb n ANYBODY (λ z. omega (arith, small)))) λ m.
        both carries (rw (ne_eqb (code f) READ r, ne_eqb (code f) WRITE m))

    known : unknown (logged_in w) n ≡ false
    unfolding unknown
    known = rw (ne_eqb n ANYBODY (λ z. omega (arith, small)), inside)

    own_src : src_differs n f ≡ false
    unfolding src_differs
    own_src = rw (carries, own, eq-eqb n n refl)

    -- 10, 8 and 9 are all that is left to refuse it with
    disk_refusal : good_site s ≡ true → refusal n f s t w ≡ (placed_in s (address_in f)).refusal
    unfolding refusal frame_refusal frame_tests place_refusal
    disk_refusal y = rw (good, y, well, known, in_place, own_src, carries)

    disk_place : (request_effect (request_in f) n s t w).tells ≡ place_told (placed_in s (address_in f))
    unfolding request_in request_effect effect_of plain carries_address
    disk_place = by_eq (code f) READ (λ (e : code f ≡ READ). rw e) λ r.
        by_eq (code f) WRITE (λ (e : code f ≡ WRITE). rw e) λ m.
        both carries (rw (ne_eqb (code f) READ r, ne_eqb (code f) WRITE m))

    placed_told : good_site s ≡ true → (frame_effect n f s t w).tells ≡ place_told (placed_in s (address_in f))
    unfolding frame_effect refusal_told
    placed_told y = by_eq (placed_in s (address_in f)).refusal 0
        (λ z. rw (disk_refusal y ∙ z) disk_place)
        (λ ne. rw (disk_refusal y, ne_eqb (placed_in s (address_in f)).refusal 0 ne, ne_eqb (placed_in s (address_in f)).refusal 10 (λ e. omega (arith, placed_low s (address_in f)))) (sym (refused_place ne)))
      where
        refused_place : ((placed_in s (address_in f)).refusal ≡ 0 → ⊥) → place_told (placed_in s (address_in f)) ≡ refuses (placed_in s (address_in f)).refusal
        refused_place ne = unfold place_told in rw (ne_eqb (placed_in s (address_in f)).refusal 0 ne)

    fault_told_lem : good_site s ≡ false → (frame_effect n f s t w).tells ≡ fault_told (first_fault s)
    unfolding frame_effect refusal refusal_told
    fault_told_lem m = rw (good, m)

    disk_told : (frame_effect n f s t w).tells ≡ located_told (placed_by s (address_in f))
    unfolding placed_by located_told
    disk_told = by_test (good_site s) (λ y. rw y (placed_told y)) (λ m. rw m (fault_told_lem m))

  -- the frame of such a command with code c, from numbers
  module _ (c : ℕ) (carries : carries_address c ≡ true) (v p tr x : ℕ) where
    abbrev f : List ℕ
    f = c ∷ address_fields (byte_field n) (fields_for v p tr x)

    written_well : refusal_of f ≡ 0
    unfolding address_fields
    written_well =
        let long : length f ≡ 8 = simp (length-append, length_low_bytes) in
        is_well f (record { known = λ e. omega (arith, address_long c carries); long = long ∙ sym (address_long c carries); dtn = λ y. refl })

    written_src : get_or f 2 0 ≡ n
    unfolding address_fields
    written_src = omega (arith, small)

    written_address : address_in f ≡ fields_for v p tr x
    unfolding fields_for address_of
    written_address = address_reads c (byte_field n) (fields_for v p tr x) (omega arith)

    written_told_lem : (frame_effect n f s t w).tells ≡ located_told (placed_by s (address_of v p tr x))
    written_told_lem = disk_told f written_well carries written_src ∙ ap located_told (ap (placed_by s) written_address ∙ fields_placed s v p tr x)

    written_served : (r q : ℕ) (t' w' : List ℕ) → Served n f s t w r t' w' → Gives (place_word s (address_of v p tr x)) q → r ≡ q
    unfolding place_word
    written_served r q t' w' done place = done.answer ∙ ap word written_told_lem ∙ sym place.answer

  -- `hinet_frame` answers what `hinet_write_read` and `hinet_write_write` wrote as `hinet_place` answers the same numbers
  pub read_served : (v p tr x r q : ℕ) (t' w' : List ℕ) → Served n (frame_of (disk_of Read n v p tr x)) s t w r t' w' → Gives (place_word s (address_of v p tr x)) q → r ≡ q
  unfolding frame_of disk_of plain code_of fields_of carries_address
  read_served = written_served READ refl

  pub write_served : (v p tr x r q : ℕ) (t' w' : List ℕ) → Served n (frame_of (disk_of Write n v p tr x)) s t w r t' w' → Gives (place_word s (address_of v p tr x)) q → r ≡ q
  unfolding frame_of disk_of plain code_of fields_of carries_address
  write_served = written_served WRITE refl
