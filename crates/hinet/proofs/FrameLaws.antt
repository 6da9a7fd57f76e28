-- What the C program can rely on of the entries that write and read one request frame. `Typed` and `Bytes` are what the types
-- say of every request and every slice.
use Prim.Native.Nat.{ℕ, ◌<◌, ◌≤◌}
use native.Mathlib.Omega.{arith}
use mathlib.Core.Path.{◌≡◌, refl, sym, ap, ◌∙◌}
use mathlib.Core.Bool.{not, ◌&&◌}
use mathlib.Core.List.{List}
use lib.Dec.{eqb, ltb}
use lib.ListN.{length, take, drop, get_or}
use lib.Seq.{take_at}
use borrow.Author.Tests.{ne_eqb, lt-ltb, le-ltb, ltb-true, ltb-false}
use Rattle.rows.proofs.BoolLaws.{by_test, by_eq, either}
pub use Rattle.rows.proofs.NumberLaws.{Bytes}
use Rattle.std.specs.Prelude.{Result}
use Rattle.refusals.specs.declared.Refusal.{Refusal}
use Rattle.refusals.specs.Outcomes.{GivesUnless}
use Rattle.rows.specs.Outcomes.{Gives}
use Rattle.rows.specs.Rows.{over}
use Rattle.terms.specs.declared.Address.{Address}
use Rattle.terms.specs.declared.LockString.{LockString}
use Rattle.frames.specs.declared.Command.{Command}
use Rattle.frames.specs.declared.Request.{Request}
use Rattle.frames.specs.Table.{frame_length, carries_address}
use Rattle.frames.specs.Requests.{plain, carried}
use Rattle.frames.specs.Reading.{Reading, code, refusal_of, request_in, reading_of}
use Rattle.frames.specs.Writing.{code_of, frame_of, written_of, buffer_after}
use Rattle.frames.proofs.ReadLaws.{code_kept}
use Rattle.frames.proofs.WriteLaws.{frame_long}
use Rattle.frames.proofs.FieldLaws.{fields_read}
pub use Rattle.frames.proofs.RoundTrips.{Sized, TrackFits, Typed}
use Rattle.frames.proofs.RoundTrips.{reads_back}
use Rattle.master.proofs.LineLaws.{frame_short}
use Rattle.master.specs.Answers.{answers, frame_made, request_of}
use Rattle.hinet.specs.Packing.{word, refusal_in, told_in}
use Rattle.hinet.specs.Entries.{address_of}
use Rattle.hinet.specs.FrameEntries.{fields_for, disk_of, named_of, login_of, string_of, frame_told, Composes, read_told, read_word}
use Rattle.hinet.specs.Tellings.{either_told}
use Rattle.hinet.proofs.PackLaws.{choice_tells, refused_choice}
use Rattle.hinet.proofs.TellingLaws.{refusal_tells, gives_tells}

pub written_short : (q : Request) → Sized q → (n : ℕ) → (written_of q n).length < 256
unfolding written_of
written_short q sized n = by_test (ltb n (length (frame_of q)))
    (λ y. rw y (omega arith))
    (λ m. rw (m, frame_long q q.command sized refl) (omega (arith, frame_short (code_of q.command))))

-- what a reading refuses
reading_refuses : (f : List ℕ) → (reading_of f).refusal ≡ refusal_of f
unfolding reading_of
reading_refuses f = by_eq (refusal_of f) 0 (λ z. rw z) (λ ne. rw (ne_eqb (refusal_of f) 0 ne))

-- a frame read tells the code of its request, which is its first byte
pub read_tells : (f : List ℕ) (r : Result Request Refusal) → GivesUnless (reading_of f).refusal (reading_of f).request r → either_told (λ (q : Request). answers (request_of (code_of q.command))) refusal_tells r ≡ read_told f
unfolding reading_of read_told
read_tells f r given =
    gives_tells (λ (q : Request). answers (request_of (code_of q.command))) _ _ r _ given refl
    ∙ by_eq (refusal_of f) 0
    (λ z. rw z (ap (λ (k : ℕ). answers (request_of k)) (code_kept f z)))
    (λ ne. rw (ne_eqb (refusal_of f) 0 ne, ne_eqb (refusal_of f) 0 ne))

pub read_well : (f : List ℕ) → refusal_of f ≡ 0 → word (answers (request_of (code f))) ≡ read_word f
unfolding read_word read_told
read_well f z = rw z

-- a frame read: the word, taken apart, tells its code, or the refusal, which then stands alone
module _ (f : List ℕ) (bytes : Bytes f) (r : ℕ) (done : Gives (read_word f) r) where
  read_small : refusal_of f < 256
  unfolding refusal_of
  read_small =
      either (eqb (length f) 0) 1 _ (omega arith)
      (either (eqb (frame_length (code f)) 0) 3 _ (omega arith)
      (either (not (eqb (length f) (frame_length (code f)))) 4 _ (omega arith)
      (either (carries_address (code f) && not (eqb (get_or f 1 0) 0)) 6 0 (omega arith) (omega arith))))

  pub read_word_tells : told_in r ≡ read_told f
  unfolding read_word read_told
  read_word_tells = choice_tells (refusal_of f) read_small (request_of (code f)) (bytes 0) r done.answer

  pub refused_read_bare : (refusal_in r ≡ 0 → ⊥) → (r ≡ refusal_in r) × (r ≡ refusal_of f)
  unfolding read_word read_told
  refused_read_bare ne =
      let told = refused_choice (refusal_of f) read_small (request_of (code f)) (bytes 0) r done.answer ne in
      (told.0, told.1)

-- the requests of the entries are typed: those without byte fields, and the others by the lengths that C's arrays have
pub plain_typed : (c : Command) → TrackFits c → Typed (plain c)
unfolding plain
plain_typed c fits = record { sized = record { name = refl; password = refl; serial = refl; string = refl }; track = fits }

pub disk_typed : (c : ℕ → Address → Command) → ((s : ℕ) (a : Address) → a.track.0 < 65536 → TrackFits (c s a)) → (src v p t x : ℕ) → Typed (disk_of c src v p t x)
unfolding disk_of fields_for address_of
disk_typed c fits src v p t x = plain_typed (c _ _) (fits _ _ (omega arith))

pub named_typed : (c : Command) → TrackFits c → (name password : List ℕ) → length name ≡ 8 → length password ≡ 6 → Typed (named_of c name password)
unfolding named_of
named_typed c fits name password n p = record { sized = record { name = n; password = p; serial = refl; string = refl }; track = fits }

pub login_typed : (name password serial : List ℕ) (product : ℕ) → length name ≡ 8 → length password ≡ 6 → length serial ≡ 4 → Typed (login_of name password serial product)
unfolding login_of
login_typed name password serial product n p s = record { sized = record { name = n; password = p; serial = s; string = refl }; track = tt }

pub string_typed : (c : Command) → TrackFits c → (x : LockString) → length x.bytes ≡ 13 → Typed (string_of c x)
unfolding string_of
string_typed c fits x full = record { sized = record { name = refl; password = refl; serial = refl; string = full }; track = fits }

-- a request written
module _ (q : Request) (typed : Typed q) (b : List ℕ) (r : ℕ) (b' : List ℕ) (done : Composes q b r b') where
  refusal_small : (written_of q (length b)).refusal < 256
  unfolding written_of
  refusal_small = by_test (ltb (length b) (length (frame_of q))) (λ y. rw y (omega arith)) (λ m. rw m (omega arith))

  -- the word, taken apart, tells the length of the frame, or the refusal
  pub compose_word_tells : told_in r ≡ frame_told (written_of q (length b)).refusal (written_of q (length b)).length
  compose_word_tells = choice_tells (written_of q (length b)).refusal refusal_small (frame_made (written_of q (length b)).length) (written_short q typed.sized (length b)) r done.answer

  -- a buffer that is shorter than the frame, and one that is not
  too_short : length b < length (frame_of q) → (r ≡ 13) × (b' ≡ b)
  unfolding written_of buffer_after word
  too_short h = let y = lt-ltb (length b) (length (frame_of q)) h in (done.answer ∙ rw y, done.left ∙ rw y)

  long_enough : length (frame_of q) ≤ length b → (r ≡ word (answers (frame_made (length (frame_of q))))) × (b' ≡ over (frame_of q) b)
  unfolding written_of buffer_after
  long_enough h = let m = le-ltb (length b) (length (frame_of q)) h in (done.answer ∙ rw m, done.left ∙ rw m)

  by_room : {P : Type 0} → (length b < length (frame_of q) → P) → (length (frame_of q) ≤ length b → P) → P
  by_room short fits = by_test (ltb (length b) (length (frame_of q))) (λ y. short (ltb-true _ _ y)) (λ m. fits (ltb-false _ _ m))

  -- 13 exactly when the buffer is shorter, and then it is as it was; otherwise the frame stands at its start and the rest stays
  pub refused_compose_untouched : (refusal_in r ≡ 0 → ⊥) → (r ≡ 13) × (length b < length (frame_of q)) × (b' ≡ b)
  unfolding refusal_in word
  refused_compose_untouched ne = by_room (λ h. ((too_short h).0, h, (too_short h).1)) (λ h. absurd (ne (ap refusal_in (long_enough h).0 ∙ omega arith)))

  pub composed_is_frame : refusal_in r ≡ 0 → (r ≡ word (answers (frame_made (length (frame_of q))))) × (length (frame_of q) ≤ length b) × (b' ≡ over (frame_of q) b)
  unfolding refusal_in
  composed_is_frame z = by_room
      (λ h. let bad : refusal_in r ≡ 13 = ap refusal_in (too_short h).0 in absurd (omega arith))
      (λ h. ((long_enough h).0, h, (long_enough h).1))

  -- what was written reads back: its code, and the request without the fields that the command does not carry
  pub composed_reads_back : refusal_in r ≡ 0 → (x : ℕ) → Gives (read_word (take (length (frame_of q)) b')) x
      → (x ≡ word (answers (request_of (code_of q.command)))) × (request_in (take (length (frame_of q)) b') ≡ carried q)
  unfolding frame_of carried
  composed_reads_back z x read =
      let stands : take (length (frame_of q)) b' ≡ frame_of q = rw (composed_is_frame z).2 (take_at (frame_of q) (drop (length (frame_of q)) b) (length (frame_of q)) refl) in
      let well : refusal_of (frame_of q) ≡ 0 = sym (reading_refuses (frame_of q)) ∙ ap (λ (y : Reading). y.refusal) (reads_back q typed) in
      (read.answer ∙ ap read_word stands ∙ sym (read_well (frame_of q) well), ap request_in stands ∙ fields_read q.command q typed.sized typed.track)
