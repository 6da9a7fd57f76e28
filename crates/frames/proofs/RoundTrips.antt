-- Reading and writing together, over the functions' own contracts: what is written reads back, and every frame that reads
-- well is the one written for what was read.
use Prim.Native.Nat.{ℕ, ◌≤◌, ◌<◌}
use native.Mathlib.Omega.{arith}
use mathlib.Core.Path.{◌≡◌, refl, sym, ap, ◌∙◌}
use mathlib.Core.Logic.{◌↔◌}
use mathlib.Core.List.{List}
use lib.Dec.{ltb}
use lib.ListN.{length, take, drop}
use lib.Seq.{take_at}
use borrow.Author.Tests.{ne_eqb, lt-ltb, le-ltb, ltb-true, ltb-false}
use Rattle.rows.proofs.BoolLaws.{by_test}
use Rattle.rows.specs.Rows.{over}
use Rattle.std.specs.Prelude.{Result, Ok, Err}
use Rattle.refusals.specs.declared.Refusal.{Refusal}
use Rattle.refusals.specs.declared.Refusal.TheVariants.{ShortBuffer}
use Rattle.refusals.specs.Refusals.{number}
use Rattle.refusals.specs.Outcomes.{GivesUnless}
use Rattle.refusals.proofs.OutcomeLaws.{gives_unless_one, number_never_0}
use Rattle.frames.specs.declared.Command.TheVariants.{Acknowledge}
use Rattle.frames.specs.declared.Request.{Request}
use Rattle.frames.specs.Table.{ACKNOWLEDGE, READ, WRITE, LOGIN, ASSIGN, LOCK, UNLOCK, CLEAR, LOGOUT, frame_table, length_in, frame_length, carries_address}
use Rattle.frames.specs.Requests.{plain, carried}
use Rattle.terms.specs.Strings.{string_at}
use Rattle.frames.specs.Reading.{code, refusal_of, named_in, login_in, string_request, request_in, Reading, reading_of, Reads}
use Rattle.frames.specs.Writing.{named_fields, login_fields, code_of, fields_of, frame_of, written_of, buffer_after, Writes}
use Rattle.frames.proofs.TableLaws.{Code, acknowledge, read, write, login, assign, lock, unlock, clear, logout, code_is}
use Rattle.frames.proofs.ReadLaws.{well_is, is_well, well_long, reading_refuses, reading_gives}
pub use Rattle.frames.proofs.WriteLaws.{Sized}
use Rattle.frames.proofs.WriteLaws.{frame_long, dtn_zero, carried_written}
pub use Rattle.rows.proofs.NumberLaws.{Bytes}
pub use Rattle.frames.proofs.FieldLaws.{TrackFits}
use Rattle.frames.proofs.FieldLaws.{fields_read, none_again, byte_again, address_again, named_again, login_again, string_again}

-- what the language's types say of every request
pub record Typed (q : Request) : Type 0 where
  pub sized : Sized q
  pub track : TrackFits q.command

-- the reading of a frame that is not refused, and of one that is
reading_well : (f : List ℕ) → refusal_of f ≡ 0 → reading_of f ≡ record { refusal = 0; request = request_in f }
unfolding reading_of
reading_well f h = rw h

reading_refused : (f : List ℕ) → (refusal_of f ≡ 0 → ⊥) → reading_of f ≡ record { refusal = refusal_of f; request = plain Acknowledge }
unfolding reading_of
reading_refused f h = rw (ne_eqb (refusal_of f) 0 h)

-- what is written is not refused
frame_well : (q : Request) → Typed q → refusal_of (frame_of q) ≡ 0
unfolding frame_of
frame_well q t =
    let long = frame_long q q.command t.sized refl in
    is_well (frame_of q) (record { known = λ e. omega (arith, long); long = long; dtn = dtn_zero q.command q })

-- what is written for a request reads back as what the request carries
pub reads_back : (q : Request) → Typed q → reading_of (frame_of q) ≡ record { refusal = 0; request = carried q }
unfolding frame_of carried
reads_back q t = reading_well (frame_of q) (frame_well q t) ∙ rw (fields_read q.command q t.sized t.track)

-- what is answered where a rule refuses nothing, and where it refuses
answered : {A : Type 0} (value : A) {r : Result A Refusal} → GivesUnless 0 value r → r ≡ Ok value
answered value {r = r} g = gives_unless_one 0 value r (Ok value) g (refl, refl)

refused : {A : Type 0} (value : A) (e : Refusal) {r : Result A Refusal} → GivesUnless (number e) value r → r ≡ Err e
refused value e {r = r} g = gives_unless_one (number e) value r (Err e) g refl

-- a write that fits, and one that does not
module _ (q : Request) (b b' : List ℕ) (w : Result ℕ Refusal) (done : Writes q b w b') where
  fits : length (frame_of q) ≤ length b → (w ≡ Ok (length (frame_of q))) × (b' ≡ over (frame_of q) b)
  unfolding written_of buffer_after
  fits h =
      let t = le-ltb (length b) (length (frame_of q)) h in
      (answered _ (rw t at done.answer), rw t at done.left)

  short : length b < length (frame_of q) → (w ≡ Err ShortBuffer) × (b' ≡ b)
  unfolding written_of buffer_after
  short h =
      let t = lt-ltb (length b) (length (frame_of q)) h in
      (refused _ ShortBuffer (rw t at done.answer), rw t at done.left)

  by_room : {P : Type 0} → (length (frame_of q) ≤ length b → P) → (length b < length (frame_of q) → P) → P
  by_room y n = by_test (ltb (length b) (length (frame_of q))) (λ t. n (ltb-true _ _ t)) (λ f. y (ltb-false _ _ f))

  -- a write that is not refused leaves the frame at the start
  frame_left : (n : ℕ) → w ≡ Ok n → take n b' ≡ frame_of q
  frame_left n ok = by_room
      (λ h. let e : n ≡ length (frame_of q) = cc (fits h).0 in rw (e, (fits h).1) (take_at (frame_of q) (drop (length (frame_of q)) b) (length (frame_of q)) refl))
      (λ h. let e = (short h).0 in cc)

  -- a refused write is refused with 13, and leaves the buffer as it was
  pub refused_write_untouched : (r : Refusal) → w ≡ Err r → (r ≡ ShortBuffer) × (b' ≡ b)
  refused_write_untouched r bad = by_room (λ h. let e = (fits h).0 in cc) (λ h. let e = (short h).0 in (cc, (short h).1))

  -- 13 exactly when the buffer is shorter than the frame
  pub write_refuses_13 : (w ≡ Err ShortBuffer) ↔ (length b < length (frame_of q))
  write_refuses_13 = (λ e. by_room (λ h. let f = (fits h).0 in cc) (λ h. h), λ h. (short h).0)

-- what was written into a buffer reads back from it
pub written_reads_back : (q : Request) → Typed q → (b b' : List ℕ) (n : ℕ) → Writes q b (Ok n) b' → (r : Result Request Refusal) → Reads (take n b') r → r ≡ Ok (carried q)
written_reads_back q t b b' n done r g = answered (carried q) (rw (frame_left q b b' (Ok n) done n refl, reads_back q t) at g)

-- a frame that is not refused is the one written for its request
pub well_read_is_written : (f : List ℕ) → Bytes f → refusal_of f ≡ 0 → frame_of (request_in f) ≡ f
unfolding request_in named_in login_in string_request string_at frame_of code_of fields_of named_fields login_fields plain frame_length length_in frame_table carries_address
well_read_is_written f b h = go (code_is (code f) (well_is f h).known)
  where
    go : Code (code f) → frame_of (request_in f) ≡ f
    go (acknowledge e) = rw e (none_again f e (well_long f ACKNOWLEDGE h e))
    go (read e) = rw e (address_again f e b (well_long f READ h e) ((well_is f h).dtn (rw e)))
    go (write e) = rw e (address_again f e b (well_long f WRITE h e) ((well_is f h).dtn (rw e)))
    go (login e) = rw e (login_again f e (well_long f LOGIN h e))
    go (assign e) = rw e (named_again f e (well_long f ASSIGN h e))
    go (lock e) = rw e (string_again f e (well_long f LOCK h e))
    go (unlock e) = rw e (string_again f e (well_long f UNLOCK h e))
    go (clear e) = rw e (none_again f e (well_long f CLEAR h e))
    go (logout e) = rw e (byte_again f e (well_long f LOGOUT h e))

-- what was read is written again as it stood
pub read_then_written : (f : List ℕ) → Bytes f → (q : Request) → Reads f (Ok q) → (b b' : List ℕ) (w : Result ℕ Refusal) → length f ≤ length b → Writes q b w b' → (w ≡ Ok (length f)) × (b' ≡ over f b)
read_then_written f bytes q g b b' w room done =
    let well : refusal_of f ≡ 0 = sym (reading_refuses f) ∙ g.0 in
    let e : frame_of q ≡ f = ap frame_of (g.1 ∙ reading_gives f well) ∙ well_read_is_written f bytes well in
    let left = fits q b b' w done (rw e room) in
    (left.0 ∙ ap (λ (l : List ℕ). Ok (length l)) e, left.1 ∙ ap (λ (p : List ℕ). over p b) e)

-- the fields that a command does not carry are not written
pub not_carried_not_written : (q : Request) → frame_of (carried q) ≡ frame_of q
unfolding frame_of carried
not_carried_not_written q = carried_written q.command q

-- two requests with one frame carry the same
pub one_frame_one_request : (p q : Request) → Typed p → Typed q → frame_of p ≡ frame_of q → carried p ≡ carried q
one_frame_one_request p q s t e = ap (λ (x : Reading). x.request) (sym (reads_back p s) ∙ ap reading_of e ∙ reads_back q t)

-- nothing of a request comes out of a refused frame
pub refused_read_is_blank : (f : List ℕ) (r : Refusal) → Reads f (Err r) → (refusal_of f ≡ number r) × ((reading_of f).request ≡ plain Acknowledge)
refused_read_is_blank f r g =
    let e : refusal_of f ≡ number r = sym (reading_refuses f) ∙ g in
    (e, ap (λ (x : Reading). x.request) (reading_refused f (λ z. number_never_0 r (sym e ∙ z))))
