-- The laws of specs/Line.antt: a frame with more than 20 bytes does what its first 21 do.
use Prim.Native.Nat.{ℕ, ◌*◌, ◌<◌, ◌≤◌, min}
use native.Mathlib.Omega.{arith}
use mathlib.Core.Path.{◌≡◌, refl, sym, ap, ◌∙◌, subst}
use mathlib.Core.Bool.{Bool, true, false, cond, not}
use mathlib.Core.List.{List, ◌++◌}
use lib.Dec.{eqb, leb}
use lib.ListN.{length, take, drop, length-take}
use lib.Seq.{take_all, take_at, get_or-take}
use borrow.Author.Tests.{ne_eqb, leb-true, leb-false}
use Rattle.rows.specs.Rows.{over}
use Rattle.rows.proofs.BoolLaws.{by_test, either}
use Rattle.rows.proofs.NumberLaws.{Bytes}
use Rattle.frames.specs.Table.{length_in, frame_length, frame_table, ACKNOWLEDGE, READ, WRITE, LOGIN, ASSIGN, LOCK, UNLOCK, CLEAR, LOGOUT}
use Rattle.frames.specs.Reading.{code, refusal_of}
use Rattle.site.specs.Rules.{good_site}
use Rattle.who.specs.Logins.{logged_in}
use Rattle.framing.specs.Reading.{data_in, heading_in, put_unless, ReadsStart}
use Rattle.framing.specs.Writing.{Writes}
use Rattle.framing.specs.declared.Heading.{Heading}
use Rattle.framing.proofs.Theorems.{written_back}
use Rattle.std.specs.Prelude.{Result, Ok, Err}
use Rattle.refusals.specs.declared.Refusal.{Refusal}
use Rattle.refusals.specs.Refusals.{number}
use Rattle.refusals.proofs.OutcomeLaws.{number_never_0}
use Rattle.site.specs.declared.Refused.{Refused}
use Rattle.master.specs.declared.Answer.{Answer}
use Rattle.master.specs.declared.Received.{Received}
use Rattle.master.specs.declared.Received.TheVariants.{Another, Answered as AsFrame}
use Rattle.master.specs.Answers.{Told, refuses}
use Rattle.master.specs.Tables.{good_tables}
use Rattle.master.specs.Refusals.{unknown, frame_tests, frame_refusal, refusal}
use Rattle.master.specs.Effects.{Effect, telling, unless, Does}
use Rattle.master.specs.Frames.{refusal_told, frame_effect, Serves}
use Rattle.master.proofs.EffectLaws.{does_one}
use Rattle.master.proofs.Outcomes.{told_one, line_not_told}
use Rattle.master.specs.Line.{MASTER, heard_effect, line_effect, received_told}

-- no request has more than 20 bytes
pub frame_short : (c : ℕ) → frame_length c < 21
unfolding frame_length length_in frame_table
frame_short c =
    either (eqb c ACKNOWLEDGE) 1 _ (omega arith)
    (either (eqb c READ) 8 _ (omega arith)
    (either (eqb c WRITE) 8 _ (omega arith)
    (either (eqb c LOGIN) 20 _ (omega arith)
    (either (eqb c ASSIGN) 15 _ (omega arith)
    (either (eqb c LOCK) 15 _ (omega arith)
    (either (eqb c UNLOCK) 15 _ (omega arith)
    (either (eqb c CLEAR) 1 _ (omega arith)
    (either (eqb c LOGOUT) 2 0 (omega arith) (omega arith)))))))))

-- a longer frame is refused by its code alone: 3, or 4
long_refusal_lem : (f : List ℕ) → 20 < length f → refusal_of f ≡ cond (eqb (frame_length (code f)) 0) 3 4
unfolding refusal_of
long_refusal_lem f l = rw (ne_eqb (length f) 0 (λ (e : length f ≡ 0). omega arith), ne_eqb (length f) (frame_length (code f)) (λ (e : length f ≡ frame_length (code f)). omega (arith, frame_short (code f))))

module _ (n : ℕ) (s t w : List ℕ) where
  -- the refusal of such a frame; b says that its code is not in the table
  abbrev long_refusal : Bool → ℕ
  long_refusal b = cond (not (good_tables t w)) 11 (cond (not (good_site s)) 10 (cond (unknown (logged_in w) n) 2 (cond b 3 4)))

  tests_long : (b : Bool) (f : List ℕ) (last : ℕ) → refusal_of f ≡ cond b 3 4 → frame_tests n f w last ≡ cond (unknown (logged_in w) n) 2 (cond b 3 4)
  unfolding frame_tests
  tests_long true f last e = rw e
  tests_long false f last e = rw e

  refused : (x y z b : Bool) → eqb (cond x 11 (cond y 10 (cond z 2 (cond b 3 4)))) 0 ≡ false
  refused true y z b = refl
  refused false true z b = refl
  refused false false true b = refl
  refused false false false true = refl
  refused false false false false = refl

  long_effect : (b : Bool) (f : List ℕ) → refusal_of f ≡ cond b 3 4 → frame_effect n f s t w ≡ telling (refusal_told s (long_refusal b)) t w
  unfolding frame_effect refusal frame_refusal
  long_effect b f e =
      rw (tests_long b f _ e, refused (not (good_tables t w)) (not (good_site s)) (unknown (logged_in w) n) b)

  -- so 21 bytes of it do what it does
  pub start_effect : (d : List ℕ) → frame_effect n (take 21 d) s t w ≡ frame_effect n d s t w
  start_effect d = by_test (leb (length d) 21)
      (λ y. ap (λ (f : List ℕ). frame_effect n f s t w) (take_all 21 d (leb-true (length d) 21 y)))
      (λ x. longer (leb-false (length d) 21 x))
    where
      longer : 21 < length d → frame_effect n (take 21 d) s t w ≡ frame_effect n d s t w
      longer l =
          let b : Bool = eqb (frame_length (code d)) 0 in
          let same : code (take 21 d) ≡ code d = get_or-take 21 d 0 0 (omega arith) in
          let whole : refusal_of d ≡ cond b 3 4 = long_refusal_lem d (omega arith) in
          let start : refusal_of (take 21 d) ≡ cond b 3 4 = long_refusal_lem (take 21 d) (omega (arith, length-take 21 d)) ∙ ap (λ (c : ℕ). cond (eqb (frame_length c) 0) 3 4) same in
          long_effect b (take 21 d) start ∙ sym (long_effect b d whole)

-- ---- what was heard
-- the start that was read is that of the data
start_is : (d b : List ℕ) → length b ≡ 21 → take (min (length d) 21) (over (take (length b) d) b) ≡ take 21 d
start_is d b e =
    ap (λ (k : ℕ). take (min (length d) 21) (take k d ++ drop (length (take k d)) b)) e
    ∙ take_at (take 21 d) (drop (length (take 21 d)) b) (min (length d) 21) (omega (arith, length-take 21 d))

module _ (n : ℕ) (b : List ℕ) (k : ℕ) (s t w : List ℕ) where
  pub line_refused : (z z' : List ℕ) (r : Refusal) → ReadsStart b k z (Err r) z' → Does (line_effect n b k s t w) (refuses (number r)) t w
  unfolding line_effect unless
  line_refused z z' r h = rw (h.answer, ne_eqb (number r) 0 (number_never_0 r)) (record { answer = refl; locks = refl; records = refl })

  pub line_heard : (z z' : List ℕ) (h : Heading) → length z ≡ 21 → ReadsStart b k z (Ok h) z' → {told : Told} {t' w' : List ℕ}
      → Does (heard_effect n h.user h.length (take (min h.length 21) z') s t w) told t' w' → Does (line_effect n b k s t w) told t' w'
  unfolding line_effect unless heard_effect heading_in put_unless
  line_heard z z' h e read {told} {t'} {w'} done =
      let d : List ℕ = data_in b k in
      let none = read.answer.0 in
      let user = ap (λ (x : Heading). x.user) read.answer.1 in
      let long = ap (λ (x : Heading). x.length) read.answer.1 in
      let start : z' ≡ over (take (length z) d) z = read.left ∙ rw none in
      let same : heard_effect n h.user h.length (take (min h.length 21) z') s t w ≡ line_effect n b k s t w = rw (none, user, long, start, start_is d z e, start_effect n s t w d) in
      subst (λ (x : Effect (List ℕ)). Does x told t' w') same done

-- a frame to another is told, and nothing changes
pub heard_another : (n : ℕ) (h : Heading) (d s t w : List ℕ) → (h.user ≡ 0 → ⊥) → Does (heard_effect n h.user h.length d s t w) (received_told (Ok (Another h))) t w
unfolding heard_effect received_told
heard_another n h d s t w ne = rw (ne_eqb h.user 0 ne) (record { answer = refl; locks = refl; records = refl })

-- one to the master is served, or refused as there
module _ (n : ℕ) (h : Heading) (d s t w : List ℕ) (to_it : h.user ≡ 0) (t' w' : List ℕ) where
  pub heard_served : (a : Answer) → Serves n d s t w (Ok a) t' w' → Does (heard_effect n h.user h.length d s t w) (received_told (Ok (AsFrame a))) t' w'
  unfolding heard_effect received_told
  heard_served a done = rw to_it done

  pub heard_refused : (e : Refused) → Serves n d s t w (Err e) t' w' → Does (heard_effect n h.user h.length d s t w) (received_told (Err e)) t' w'
  unfolding heard_effect received_told
  heard_refused e done = rw to_it done

-- ---- a request of a station, written to the line and received, is served as the request itself: whatever stood in the buffer, and
-- whatever bits follow
pub line_served : (d b : List ℕ) (bits : ℕ) (b' : List ℕ) → Bytes d → Writes MASTER d b (Ok bits) b' → (k : ℕ) → bits ≤ k → k ≤ 8 * length b'
    → (n : ℕ) (s t w : List ℕ) → line_effect n b' k s t w ≡ frame_effect n d s t w
unfolding line_effect unless heard_effect
line_served d b bits b' each h k l g n s t w =
    let back = written_back MASTER d b bits b' h (omega arith) each k l g in
    rw (back.0, back.1, back.2)

-- ---- only one outcome: an answer is known by what it tells
ok_one : {a b : Answer} → ◌≡◌ {A = Result Answer Refused} (Ok a) (Ok b) → a ≡ b
ok_one e = cc

err_one : {a b : Refused} → ◌≡◌ {A = Result Answer Refused} (Err a) (Err b) → a ≡ b
err_one e = cc

ok_no_err : {a : Answer} {b : Refused} → ◌≡◌ {A = Result Answer Refused} (Ok a) (Err b) → ⊥
ok_no_err e = let z : ◌≡◌ {A = ℕ} 0 1 = cc in omega arith

received_one : (a b : Result Received Refused) → received_told a ≡ received_told b → a ≡ b
unfolding received_told
received_one (Ok (Another g)) (Ok (Another h)) e =
    let user : g.user ≡ h.user = cc in
    let long : g.length ≡ h.length = cc in
    let same : g ≡ h = λ i. record { user = user i; length = long i } in
    ap (λ (x : Heading). Ok (Another x)) same
received_one (Ok (Another h)) (Ok (AsFrame b)) e = absurd (line_not_told h.user h.length (Ok b) e)
received_one (Ok (Another h)) (Err b) e = absurd (line_not_told h.user h.length (Err b) e)
received_one (Ok (AsFrame a)) (Ok (Another h)) e = absurd (line_not_told h.user h.length (Ok a) (sym e))
received_one (Ok (AsFrame a)) (Ok (AsFrame b)) e = let same : a ≡ b = ok_one (told_one (Ok a) (Ok b) e) in ap (λ (x : Answer). Ok (AsFrame x)) same
received_one (Ok (AsFrame a)) (Err b) e = absurd (ok_no_err (told_one (Ok a) (Err b) e))
received_one (Err a) (Ok (Another h)) e = absurd (line_not_told h.user h.length (Err a) (sym e))
received_one (Err a) (Ok (AsFrame b)) e = absurd (ok_no_err (sym (told_one (Err a) (Ok b) e)))
received_one (Err a) (Err b) e = let same : a ≡ b = err_one (told_one (Err a) (Err b) e) in ap Err same

pub line_one : {e : Effect (List ℕ)} {r r' : Result Received Refused} {t₁ t₂ w₁ w₂ : List ℕ} → Does e (received_told r) t₁ w₁ → Does e (received_told r') t₂ w₂ → (r ≡ r') × (t₁ ≡ t₂) × (w₁ ≡ w₂)
line_one a b = let one = does_one a b in (received_one _ _ one.0, one.1, one.2)
