-- The laws of a block's loop: its begin, a turn and its end.
use Prim.Native.Nat.{ℕ, zero, suc, ◌+◌, ◌-◌, ◌*◌, ◌≤◌, ◌<◌}
use native.Mathlib.Omega.{arith}
use mathlib.Core.Path.{◌≡◌, refl, sym, ap, ◌∙◌}
use mathlib.Core.Bool.{true, false}
use mathlib.Core.List.{List, [], ◌++◌, append-nil, append_assoc}
use lib.ListN.{length, drop, get_or, length-append, length-drop}
use lib.Seq.{drop-drop}
use Rattle.rows.specs.Rows.{over}
use Rattle.rows.proofs.RowLaws.{over_next}
use Rattle.lines.proofs.LineLaws.{line_long}
use Rattle.session.specs.Records.{number, frame, record_size, whole}
use Rattle.session.specs.Session.{Stand, Outcome, Played, served, next_line, next, still, after, play_in, play, Adds, Plays}
use Rattle.session.proofs.RecordLaws.{Whole, broken_short}
use Rattle.master.specs.Frames.{frame_effect}

-- one record more, and none
pub play_on : (s : List ℕ) (d : Stand) (k : ℕ) → whole d.rest ≡ true → play_in (suc k) s d ≡ after (next_line s d) (play_in k s (next s d))
unfolding play_in
play_on s d k y = rw y

pub play_none : (s : List ℕ) (d : Stand) (k : ℕ) → whole d.rest ≡ false → play_in k s d ≡ still d
unfolding play_in
play_none s d zero m = refl
play_none s d (suc k) m = rw m

-- where the block f stands at `at`
abbrev pub stand_at : List ℕ → ℕ → ℕ → List ℕ → List ℕ → Stand
stand_at f at i t w = record { rest = drop at f; index = i; locks = t; records = w }

-- on the way: what is to come from here is what is to come in all, behind the text so far
pub record Playing (f : List ℕ) (i₀ : ℕ) (s t₀ w₀ o₀ t w o : List ℕ) (at i u : ℕ) : Type 0 where
  pub text : List ℕ
  pub left : ℕ
  pub inside : at ≤ length f
  pub enough : length f ≤ left + at
  pub plays : after text (play_in left s (stand_at f at i t w)) ≡ play s (stand_at f 0 i₀ t₀ w₀)
  pub output : o ≡ over text o₀
  pub used : u ≡ length text
  pub room : u ≤ 48 * at
  pub count : i ≤ i₀ + at

pub playing_begins : (f : List ℕ) (i : ℕ) (s t w o : List ℕ) → Playing f i s t w o t w o 0 i 0
unfolding play
playing_begins f i s t w o = record {
  text = [];
  left = length f;
  inside = omega arith;
  enough = omega arith;
  plays = refl;
  output = refl;
  used = refl;
  room = omega arith;
  count = omega arith;
}

module _ (f : List ℕ) (i₀ : ℕ) (s t₀ w₀ o₀ t w o : List ℕ) (at i u : ℕ) (p : Playing f i₀ s t₀ w₀ o₀ t w o at i u) where
  -- where the next record leads
  on_stand : (n u' : ℕ) (t' w' o' : List ℕ) → n ≡ record_size (drop at f)
      → Adds i (number (drop at f)) (frame (drop at f)) s t w o u u' t' w' o'
      → next s (stand_at f at i t w) ≡ stand_at f (at + n) (i + 1) t' w'
  unfolding next served
  on_stand n u' t' w' o' e a = rw (← e, drop-drop n at f, ← a.locks, ← a.records)

  pub playing_on : (n u' : ℕ) (t' w' o' : List ℕ) → Whole f at n → 48 * length f ≤ length o₀
      → Adds i (number (drop at f)) (frame (drop at f)) s t w o u u' t' w' o'
      → Playing f i₀ s t₀ w₀ o₀ t' w' o' (at + n) (i + 1) u'
  unfolding next_line served
  playing_on n u' t' w' o' y fits a =
      let d = stand_at f at i t w in
      let line : List ℕ = next_line s d in
      let short : length line ≤ 87 = line_long i (number (drop at f)) (frame_effect (number (drop at f)) (frame (drop at f)) s t w).tells in
      let more : p.left ≡ suc (p.left - 1) = omega (arith, p.enough, y.more, y.inside) in
      let step = on_stand n u' t' w' o' y.size a in
      record {
        text = p.text ++ line;
        left = p.left - 1;
        inside = y.inside;
        enough = omega (arith, p.enough, y.more);
        plays =
            rw (append_assoc p.text line _, ← step)
            (ap (after p.text) (sym (play_on s d (p.left - 1) y.is) ∙ ap (λ (k : ℕ). play_in k s d) (sym more)) ∙ p.plays);
        output = a.line.left ∙ rw p.output (over_next o₀ p.text line u (sym p.used) (omega (arith, p.room, y.more, y.inside)));
        used = a.line.answer ∙ ap (λ (k : ℕ). k + length line) p.used ∙ sym (length-append p.text line);
        room = omega (arith, a.line.answer, p.room, y.more);
        count = omega (arith, p.count, y.more);
      }

  pub playing_ends : whole (drop at f) ≡ false → 48 * length f ≤ length o₀ → get_or f (at + 1) 0 < 256
      → Plays f i₀ s t₀ w₀ o₀ (record { at = at; index = i; used = u }) t w o
  playing_ends m fits byte =
      let d = stand_at f at i t w in
      let all : record { text = p.text ++ []; stand = d } ≡ play s (stand_at f 0 i₀ t₀ w₀) = ap (after p.text) (sym (play_none s d p.left m)) ∙ p.plays in
      let text : p.text ≡ (play s (stand_at f 0 i₀ t₀ w₀)).text = sym (append-nil p.text) ∙ ap (λ (q : Outcome). q.text) all in
      record {
        inside = p.inside;
        stand = ap (λ (q : Outcome). q.stand) all;
        used = p.used ∙ ap length text;
        output = p.output ∙ ap (λ (l : List ℕ). over l o₀) text;
        room = omega (arith, p.room, p.inside);
        count = omega (arith, p.count, p.inside);
        short = broken_short f at m byte;
      }

-- a block has one outcome
pub plays_one : {f : List ℕ} {i : ℕ} {s t w o : List ℕ} {r q : Played} {t₁ w₁ o₁ t₂ w₂ o₂ : List ℕ}
    → Plays f i s t w o r t₁ w₁ o₁ → Plays f i s t w o q t₂ w₂ o₂
    → (r.at ≡ q.at) × (r.index ≡ q.index) × (r.used ≡ q.used) × (t₁ ≡ t₂) × (w₁ ≡ w₂) × (o₁ ≡ o₂)
plays_one {f} {r = r} {q = q} a b =
    let d = a.stand ∙ sym b.stand in
    let left : length (drop r.at f) ≡ length (drop q.at f) = ap (λ (x : Stand). length x.rest) d in (
      omega (arith, left, length-drop r.at f, length-drop q.at f, a.inside, b.inside),
      ap (λ (x : Stand). x.index) d,
      a.used ∙ sym b.used,
      ap (λ (x : Stand). x.locks) d,
      ap (λ (x : Stand). x.records) d,
      a.output ∙ sym b.output,
    )
