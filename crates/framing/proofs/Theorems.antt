-- What is promised of frames, over the contracts of write, read and read_start: `Writes`, `Reads` and `ReadsStart`.
use Prim.Native.Nat.{ℕ, suc, ◌+◌, ◌*◌, ◌/◌, ◌%◌, ◌^◌, ◌<◌, ◌≤◌}
use native.Mathlib.Omega.{arith}
use mathlib.Core.Path.{◌≡◌, refl, sym, ap, ◌∙◌, subst}
use mathlib.Core.Bool.{Bool, true, false, cond, not, ◌&&◌}
use mathlib.Core.Logic.{inl, inr}
use mathlib.Core.List.{List, [], ◌∷◌, ◌++◌, append-nil}
use lib.Dec.{eqb, leb, ltb}
use lib.ListN.{length, take, drop, get_or, length-append}
use borrow.Author.Tests.{eqb-true, ne_eqb, le-ltb, leb-true, not-false}
use Rattle.std.specs.Prelude.{Result, Ok, Err}
use Rattle.refusals.specs.declared.Refusal.{Refusal}
use Rattle.refusals.specs.Refusals.{number}
use Rattle.refusals.specs.Outcomes.{GivesUnless, LeavesUnless}
use Rattle.refusals.proofs.OutcomeLaws.{number_never_0, gives_unless_one}
use Rattle.rows.specs.Rows.{over}
use Rattle.rows.proofs.BoolLaws.{by_test, either, and_left, and_right}
use Rattle.rows.proofs.NumberLaws.{Bytes}
use Rattle.framing.specs.Bits.{to_bits, bytes_for, pack}
use Rattle.framing.specs.Zeros.{with_zeros, without_zeros}
use Rattle.framing.specs.Check.{check_byte, check_from, check, check_bytes}
use Rattle.framing.specs.Frame.{flag, content, framed, frame_bits}
use Rattle.framing.specs.Promises.{First, Sent}
use Rattle.framing.specs.Writing.{write_refusal, bits_after, Writes}
use Rattle.framing.specs.Reading.{Scan, ended, sevenOnes, stopped, scan, scanned, data_of, checks, content_refusal, scan_refusal, line_refusal, content_in, user_in, data_in, heading_in, put_unless, read_refusal, Reads, ReadsStart}
use Rattle.framing.specs.Inner.{run_after}
use Rattle.framing.specs.declared.Heading.{Heading}
use Rattle.framing.proofs.BitLaws.{length_to_bits, length_pack, read_pack}
use Rattle.framing.proofs.ZeroLaws.{with_long, without_append}
use Rattle.framing.proofs.CheckLaws.{check_append}
use Rattle.framing.proofs.GoodLaws.{byte_lt, register_lt, state_one, byte_one}
use Rattle.framing.proofs.PenLaws.{framed_long}
use Rattle.framing.proofs.StopLaws.{passes, ranges, reads_well}
use Rattle.framing.proofs.RoundTrip.{refusal_framed, bytes_append, bytes_cons, bytes_checked, length_checked, checks_checked, content_bytes, length_content, checks_content, user_content, data_content, content_read}

-- ---- what was written reads back
-- where a frame's bits stand first its user number and data are read, whatever follows
pub reads_back : (user : ℕ) (d s : List ℕ) (m : ℕ) → user < 2 ^ 8 → Bytes d → 1 ≤ length d → length d ≤ 1024 → First (frame_bits user d) s m
    → (line_refusal s m ≡ 0) × (user_in s m ≡ user) × (data_in s m ≡ d)
unfolding user_in data_in frame_bits
reads_back user d s m u b l g f =
    let c : content_in s m ≡ content user d = content_read user d s m u b f in (
      refusal_framed (content user d) s m f (content_bytes user d u b) (omega (arith, length_content user d)) (omega (arith, length_content user d))
          ∙ rw (checks_content user d),
      ap (λ (x : List ℕ). get_or x 0 0) c ∙ user_content user d,
      ap data_of c ∙ data_content user d,
    )

packed_inside : (bs : List Bool) (rest : List ℕ) → length bs ≤ 8 * length (pack bs ++ rest)
unfolding bytes_for
packed_inside bs rest = omega (arith, length-append (pack bs) rest, length_pack bs)

-- where writing is not refused the data are 1 to 1024 bytes
pub write_sized : (user : ℕ) (d b : List ℕ) → write_refusal user d b ≡ 0 → (1 ≤ length d) × (length d ≤ 1024)
unfolding write_refusal
write_sized user d b e =
    let least : Bool = leb 1 (length d) in
    let most : Bool = leb (length d) 1024 in
    let both : (least && most) ≡ true = not-false (least && most) (passes (not (least && most)) 16 _ e).0 in
    (leb-true 1 (length d) (and_left least most both), leb-true (length d) 1024 (and_right least most both))

-- what was written, into a buffer b
module _ (user : ℕ) (d b : List ℕ) (n : ℕ) (b' : List ℕ) (w : Writes user d b (Ok n) b') where
  unrefused : write_refusal user d b ≡ 0
  unrefused = w.answer.0

  bits : n ≡ length (frame_bits user d)
  bits = w.answer.1

  bytes : b' ≡ over (pack (frame_bits user d)) b
  unfolding bits_after
  bytes = w.left ∙ rw unrefused

  sized : (1 ≤ length d) × (length d ≤ 1024)
  sized = write_sized user d b unrefused

  -- the frame's bits lie within the buffer
  pub written_inside : n ≤ 8 * length b'
  written_inside = rw (bits, bytes) (packed_inside (frame_bits user d) (drop (length (pack (frame_bits user d))) b))

  -- and stand first in it, for every bit count that reaches their end
  pub written_first : (m : ℕ) → n ≤ m → m ≤ 8 * length b' → First (frame_bits user d) b' m
  written_first m l g = record {
    enough = rw bits at l;
    inside = g;
    same = rw bytes (read_pack (frame_bits user d) (drop (length (pack (frame_bits user d))) b));
  }

  module _ (small : user < 2 ^ 8) (each : Bytes d) (m : ℕ) (enough : n ≤ m) (inside : m ≤ 8 * length b') where
    -- so it reads well, and gives user number and data
    pub written_back : (line_refusal b' m ≡ 0) × (user_in b' m ≡ user) × (data_in b' m ≡ d)
    written_back = reads_back user d b' m small each sized.0 sized.1 (written_first m enough inside)

    heard : heading_in b' m ≡ record { user = user; length = length d }
    unfolding heading_in
    heard = rw (written_back.1, written_back.2)

    answered : (k : ℕ) (r : Result Heading Refusal) → GivesUnless k (heading_in b' m) r → k ≡ 0 → r ≡ Ok (record { user = user; length = length d })
    answered k r g none = gives_unless_one k (heading_in b' m) r (Ok (record { user = user; length = length d })) g (none, sym heard)

    -- what was written always reads back, into any buffer that holds the data
    pub written_reads_back : (room room' : List ℕ) (r : Result Heading Refusal) → Reads b' m room r room' → length d ≤ length room → (r ≡ Ok (record { user = user; length = length d })) × (room' ≡ over d room)
    unfolding put_unless read_refusal
    written_reads_back room room' r g l =
        let none : read_refusal b' m room ≡ 0 = rw (written_back.0, written_back.2, le-ltb (length room) (length d) l) in
        (answered _ r g.answer none, g.left ∙ rw (none, written_back.2))

    -- and its start, as much as the buffer holds, into any
    pub written_reads_start : (room room' : List ℕ) (r : Result Heading Refusal) → ReadsStart b' m room r room' → (r ≡ Ok (record { user = user; length = length d })) × (room' ≡ over (take (length room) d) room)
    unfolding put_unless
    written_reads_start room room' r g = (answered _ r g.answer written_back.0, g.left ∙ rw (written_back.0, written_back.2))

-- two different contents never have the same bits
pub same_bits : (user user' : ℕ) (d d' : List ℕ) → user < 2 ^ 8 → user' < 2 ^ 8 → Bytes d → Bytes d' → frame_bits user d ≡ frame_bits user' d' → (user ≡ user') × (d ≡ d')
same_bits user user' d d' u u' b b' e =
    let bs : List Bool = frame_bits user d in
    let s : List ℕ = pack bs ++ [] in
    let f : First bs s (length bs) = record { enough = omega arith; inside = packed_inside bs []; same = read_pack bs [] } in
    let c : content user d ≡ content user' d' = sym (content_read user d s (length bs) u b f) ∙ content_read user' d' s (length bs) u' b' (subst (λ (x : List Bool). First x s (length bs)) e f) in
    (sym (user_content user d) ∙ ap (λ (x : List ℕ). get_or x 0 0) c ∙ user_content user' d', sym (data_content user d) ∙ ap data_of c ∙ data_content user' d')

-- ---- damage
-- the register is one-to-one over any bytes
from_one : (bs : List ℕ) (f g : ℕ) → Bytes bs → f < 2 ^ 16 → g < 2 ^ 16 → check_from f bs ≡ check_from g bs → f ≡ g
unfolding check_from
from_one [] f g b l h e = e
from_one (x ∷ bs) f g b l h e = state_one f g x l h (b 0) (from_one bs (check_byte f x) (check_byte g x) (λ i. b (suc i)) (byte_lt f x l (b 0)) (byte_lt g x h (b 0)) e)

module _ (xs ys : List ℕ) (a b : ℕ) (bytes-xs : Bytes xs) (bytes-ys : Bytes ys) (byte-a : a < 2 ^ 8) (byte-b : b < 2 ^ 8) where
  -- bytes that differ in one byte alone never have the same check
  pub one_byte : check (xs ++ (a ∷ ys)) ≡ check (xs ++ (b ∷ ys)) → a ≡ b
  unfolding check check_from
  one_byte e =
      let f : ℕ = check_from 0xFFFF xs in
      let l : f < 2 ^ 16 = register_lt xs bytes-xs 0xFFFF (omega arith) in
      let p : check_from 0xFFFF (xs ++ (a ∷ ys)) ≡ check_from (check_byte f a) ys = check_append xs (a ∷ ys) 0xFFFF in
      let q : check_from 0xFFFF (xs ++ (b ∷ ys)) ≡ check_from (check_byte f b) ys = check_append xs (b ∷ ys) 0xFFFF in
      let same : check_from (check_byte f a) ys ≡ check_from (check_byte f b) ys =
      omega (arith, p, q, e, register_lt ys bytes-ys (check_byte f a) (byte_lt f a l byte-a), register_lt ys bytes-ys (check_byte f b) (byte_lt f b l byte-b)) in
      byte_one f a b l byte-a byte-b (from_one ys (check_byte f a) (check_byte f b) bytes-ys (byte_lt f a l byte-a) (byte_lt f b l byte-b) same)

  -- so the frame of a content in which one byte of user number or data was changed, and the check was not, is always refused 22
  pub damaged : (s : List ℕ) (m : ℕ) → (a ≡ b → ⊥) → 2 ≤ length (xs ++ (a ∷ ys)) → length (xs ++ (a ∷ ys)) ≤ 1025
      → First (framed ((xs ++ (b ∷ ys)) ++ check_bytes (xs ++ (a ∷ ys)))) s m → line_refusal s m ≡ 22
  damaged s m n l g f =
      let c : List ℕ = (xs ++ (b ∷ ys)) ++ check_bytes (xs ++ (a ∷ ys)) in
      let long : length c ≡ length (xs ++ (a ∷ ys)) + 2 =
      length_checked (xs ++ (b ∷ ys)) (xs ++ (a ∷ ys)) ∙ omega (arith, length-append xs (a ∷ ys), length-append xs (b ∷ ys)) in
      refusal_framed c s m f (bytes_checked (xs ++ (b ∷ ys)) (xs ++ (a ∷ ys)) (bytes_append xs (b ∷ ys) bytes-xs (bytes_cons b ys byte-b bytes-ys))) (omega arith) (omega arith)
      ∙ rw (checks_checked (xs ++ (b ∷ ys)) (xs ++ (a ∷ ys)), ne_eqb (check (xs ++ (a ∷ ys))) (check (xs ++ (b ∷ ys))) (λ e. n (one_byte e)))

-- ---- refusals
-- a refused write leaves the buffer as it was, and its number is the rule's
pub write_refused : (user : ℕ) (d b : List ℕ) (r : Refusal) (b' : List ℕ) → Writes user d b (Err r) b' → (b' ≡ b) × (number r ≡ write_refusal user d b) × (number r ≡ 0 → ⊥)
unfolding bits_after
write_refused user d b r b' w = (w.left ∙ rw (w.answer, ne_eqb (number r) 0 (number_never_0 r)), sym w.answer, number_never_0 r)

unread : (j : ℕ) (value : Heading) (p b : List ℕ) (r : Refusal) (b' : List ℕ) → LeavesUnless j value (put_unless j p b) (Err r) b' → (b' ≡ b) × (number r ≡ j) × (number r ≡ 0 → ⊥)
unfolding put_unless
unread j value p b r b' g = (g.left ∙ rw (g.answer, ne_eqb (number r) 0 (number_never_0 r)), sym g.answer, number_never_0 r)

-- so does a refused read
pub read_refused : (s : List ℕ) (n : ℕ) (b : List ℕ) (r : Refusal) (b' : List ℕ) → Reads s n b (Err r) b' → (b' ≡ b) × (number r ≡ read_refusal s n b) × (number r ≡ 0 → ⊥)
read_refused s n b r b' g = unread (read_refusal s n b) (heading_in s n) (data_in s n) b r b' g

pub start_refused : (s : List ℕ) (n : ℕ) (b : List ℕ) (r : Refusal) (b' : List ℕ) → ReadsStart s n b (Err r) b' → (b' ≡ b) × (number r ≡ line_refusal s n) × (number r ≡ 0 → ⊥)
start_refused s n b r b' g = unread (line_refusal s n) (heading_in s n) (take (length b) (data_in s n)) b r b' g

-- ---- room
-- no frame has more than 9891 bits, so 1237 bytes hold any
pub longest : (user : ℕ) (d : List ℕ) → length d ≤ 1024 → length (frame_bits user d) ≤ 9891
unfolding frame_bits
longest user d l =
    let c : List ℕ = content user d in
    omega (arith, framed_long c, with_long (to_bits c) 0 (omega arith), length_to_bits c, length_content user d)

pub fits : (user : ℕ) (d b : List ℕ) → 1237 ≤ length b → write_refusal user d b ≡ 13 → ⊥
unfolding write_refusal bytes_for
fits user d b l e = by_test (leb 1 (length d) && leb (length d) 1024)
    (λ t. let most : length d ≤ 1024 = leb-true (length d) 1024 (and_right (leb 1 (length d)) (leb (length d) 1024) t) in
    zero (rw (t, le-ltb (length b) ((length (frame_bits user d) + 7) / 8) (omega (arith, longest user d most))) at e))
    (λ f. other (rw f at e))
  where
    zero : ◌≡◌ {A = ℕ} 0 13 → ⊥
    zero e = omega arith

    other : ◌≡◌ {A = ℕ} 17 13 → ⊥
    other e = omega arith

-- ---- one frame for one content
-- every frame that reads well is the one written for what was read
pub canonical : (s : List ℕ) (m : ℕ) → line_refusal s m ≡ 0 → Sent (take m (to_bits s)) (user_in s m) (data_in s m)
canonical s m e =
    let w = reads_well s m e in
    let z : with_zeros 0 (to_bits (content (user_in s m) (data_in s m))) ≡ w.raw ++ cond (eqb (run_after 0 w.raw) 5) (false ∷ []) [] = ap (with_zeros 0) w.bits ∙ w.stop.zeros in
    record {
      lead = w.stop.lead;
      raw = w.raw;
      tail = w.stop.tail;
      flags = w.stop.flags;
      parts = w.opening ∙ ap (λ (l : List Bool). flag ++ l) w.stop.parts;
      zeros = by_test (eqb (run_after 0 w.raw) 5)
          (λ t. inr (sym (z ∙ rw t), eqb-true (run_after 0 w.raw) 5 t))
          (λ f. inl (sym (z ∙ rw f (append-nil w.raw))));
    }

-- what a start that was read says: nothing is refused, and this is the frame
pub start_read : (s : List ℕ) (n : ℕ) (b : List ℕ) (h : Heading) (b' : List ℕ) → ReadsStart s n b (Ok h) b'
    → (line_refusal s n ≡ 0) × (h.user ≡ user_in s n) × (h.length ≡ length (data_in s n)) × (b' ≡ over (take (length b) (data_in s n)) b)
unfolding heading_in put_unless
start_read s n b h b' r =
    (r.answer.0, ap (λ (x : Heading). x.user) r.answer.1, ap (λ (x : Heading). x.length) r.answer.1, r.left ∙ rw r.answer.0)

-- of a frame that reads well user number and data are bytes, and the data are 1 to 1024
pub read_ranges : (s : List ℕ) (m : ℕ) → line_refusal s m ≡ 0 → (user_in s m < 256) × Bytes (data_in s m) × (1 ≤ length (data_in s m)) × (length (data_in s m) ≤ 1024)
read_ranges s m e = ranges s m e

-- the numbers of the refusals are below 23
scan_small : (x : Scan) → scan_refusal x < 23
unfolding scan_refusal content_refusal
scan_small ended = omega arith
scan_small sevenOnes = omega arith
scan_small (stopped bs) =
    let c : List Bool = without_zeros 0 bs in
    either (not (eqb (length c % 8) 0)) 20 _ (omega arith)
    (either (ltb (length c / 8) 4) 21 _ (omega arith)
    (either (ltb 1027 (length c / 8)) 17 _ (omega arith)
    (either (not (checks (pack c))) 22 0 (omega arith) (omega arith))))

pub line_small : (s : List ℕ) (n : ℕ) → line_refusal s n < 23
unfolding line_refusal
line_small s n = scan_small (scanned s n)

pub read_small : (s : List ℕ) (n : ℕ) (b : List ℕ) → read_refusal s n b < 23
unfolding read_refusal
read_small s n b = either (eqb (line_refusal s n) 0) _ (line_refusal s n) (either (ltb (length b) (length (data_in s n))) 13 0 (omega arith) (omega arith)) (line_small s n)

pub write_small : (user : ℕ) (d b : List ℕ) → write_refusal user d b < 23
unfolding write_refusal
write_small user d b = either (not (leb 1 (length d) && leb (length d) 1024)) 17 _ (omega arith) (either (ltb (length b) (bytes_for (length (frame_bits user d)))) 13 0 (omega arith) (omega arith))

-- where reading is not refused, the line is not
pub read_good : (s : List ℕ) (n : ℕ) (b : List ℕ) → read_refusal s n b ≡ 0 → line_refusal s n ≡ 0
unfolding read_refusal
read_good s n b e = by_test (eqb (line_refusal s n) 0) (λ t. eqb-true (line_refusal s n) 0 t) (λ f. rw f at e)

-- ---- flags, and the last zero
-- a flag that follows at once is skipped
pub flag_skipped : (rest : List Bool) → scan 0 [] (flag ++ rest) ≡ scan 0 [] rest
unfolding scan flag
flag_skipped rest = refl

-- also one that shares its zero with the flag before
pub flag_shared : (rest : List Bool) → scan 0 [] (drop 1 flag ++ rest) ≡ scan 0 [] rest
unfolding scan flag
flag_shared rest = refl

-- bits that end in five ones are read as if the zero were there
pub last_zero : (raw : List Bool) → run_after 0 raw ≡ 5 → without_zeros 0 raw ≡ without_zeros 0 (raw ++ (false ∷ []))
unfolding without_zeros
last_zero raw e = sym (without_append raw (false ∷ []) 0 ∙ ap (λ (k : ℕ). without_zeros 0 raw ++ without_zeros k (false ∷ [])) e ∙ append-nil (without_zeros 0 raw))
