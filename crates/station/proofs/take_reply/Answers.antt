use Prim.Native.Nat.{ℕ}
use mathlib.Core.Path.{◌≡◌, refl, sym, ap, ◌∙◌}
use mathlib.Core.List.{List, []}
use mathlib.Core.Bool.{Bool, not, ◌&&◌}
use lib.Dec.{eqb}
use lib.ListN.{length, get_or, replicate}
use borrow.Author.Rules.{rules}
use native.Mathlib.Omega.{arith}
use Rattle.terms.specs.declared.Status.{Status}
use Rattle.terms.specs.declared.LockString.{LockString}
use Rattle.terms.specs.Statuses.{byte_of}
use Rattle.terms.specs.Strings.{legal}
use Rattle.frames.specs.declared.code.Code.{Code}
use Rattle.frames.specs.Codes.{byte_of as code_byte}
use Rattle.frames.specs.Table.{LOCK}
use Rattle.station.specs.State.{list_of, wait_of, is_listed, added, code_in, asked_in, nothing}
use Rattle.station.specs.Replies.{grants, carries_length, fits, adds}
use Rattle.station.proofs.StateLaws.{too_short, parts_make}
use Rattle.station.proofs.Cases.{fit_is, fits_no_code, fits_no_status, reply_bad_state, reply_unlisted, reply_unfit, reply_adds_none, reply_full, reply_adds}
use Rattle.station.proofs.take_reply.Goals as goal
use Rattle.station.proofs.take_reply.Goals.{then-is_new+in-Some-first_unused, else-is_new}

-- what the code finds in the parts of a state is what the rules say of it
code_found : (v : List ℕ) {k : ℕ} → get_or v 0 0 ≡ k → code_in v ≡ k
unfolding code_in
code_found v e = e

module _ (l v : List ℕ) (b : ℕ) (code : Code) (s : LockString) (status : Status) (e : get_or v 0 0 ≡ code_byte code) (f : byte_of status ≡ b) (g : s ≡ asked_in v) where
  fit_found : {r : Bool} → r ≡ (fits (code_byte code) (byte_of status) && not (grants (byte_of status) && (carries_length (code_byte code) && not (legal s))))
      → (fits (code_in v) b && not (grants b && (carries_length (code_in v) && not (legal (asked_in v))))) ≡ r
  fit_found h = rw (code_found v e, ← f, ← g) (sym h)

  adds_found : {r : Bool} → r ≡ (eqb (code_byte code) LOCK && (grants (byte_of status) && not (is_listed l s))) → adds l v b ≡ r
  unfolding adds
  adds_found h = rw (code_found v e, ← f, ← g) (sym h)

pub returns-in_default : goal.returns-in_default
returns-in_default c = reply_bad_state _ _ (too_short _ c.in_default.ensures.cases)

pub returns-then-not-parts_good : goal.returns-then-not-parts_good
returns-then-not-parts_good c =
    let parts = c.in-Some.ensures.cases in
    let same = parts_make c.args.state.now parts.0 parts.1 in
    let g = reply_bad_state c.args.state.now c.args.reply (rw same at (sym c.parts_good.ensures ∙ c.if-not-parts_good.true)) in
    record { answer = g.answer; left = same ∙ g.left }

pub returns-in_default-try_from : goal.returns-in_default-try_from
unfolding wait_of
returns-in_default-try_from c =
    let st = c.args.state.now in
    let parts = c.in-Some.ensures.cases in
    let same = parts_make st parts.0 parts.1 in
    let good = rw same at (sym c.parts_good.ensures ∙ c.if-not-parts_good.false) in
    let g = reply_unlisted st c.args.reply good (fits_no_code _ _ (rw (← parts.1, code_found c.in-Some.wait.now refl) c.in_default-try_from.ensures.0)) in
    record { answer = g.answer; left = same ∙ g.left }

pub returns-in_default-try_from-2 : goal.returns-in_default-try_from-2
returns-in_default-try_from-2 c =
    let st = c.args.state.now in
    let parts = c.in-Some.ensures.cases in
    let same = parts_make st parts.0 parts.1 in
    let good = rw same at (sym c.parts_good.ensures ∙ c.if-not-parts_good.false) in
    let g = reply_unlisted st c.args.reply good (fits_no_status _ _ c.in_default-try_from-2.ensures.1) in
    record { answer = g.answer; left = same ∙ g.left }

pub returns-then-not-is_fit : goal.returns-then-not-is_fit
unfolding wait_of
returns-then-not-is_fit c =
    let st = c.args.state.now in
    let parts = c.in-Some.ensures.cases in
    let same = parts_make st parts.0 parts.1 in
    let good = rw same at (sym c.parts_good.ensures ∙ c.if-not-parts_good.false) in
    let fit = fit_found [] _ c.args.reply _ _ _ c.in-Ok.ensures c.in-Ok-try_from.ensures c.string-string.ensures c.is_fit.ensures in
    let g = reply_unfit st c.args.reply good (rw (← parts.1) (fit ∙ c.if-not-is_fit.true)) in
    record { answer = g.answer; left = same ∙ g.left }

pub returns-in_default-first_unused : goal.returns-in_default-first_unused
unfolding list_of wait_of
returns-in_default-first_unused c =
    let st = c.args.state.now in
    let parts = c.in-Some.ensures.cases in
    let same = parts_make st parts.0 parts.1 in
    let good = rw same at (sym c.parts_good.ensures ∙ c.if-not-parts_good.false) in
    let fit = fit_found [] _ c.args.reply _ _ _ c.in-Ok.ensures c.in-Ok-try_from.ensures c.string-string.ensures c.is_fit.ensures in
    let is = fit_is st c.args.reply (rw (← parts.1) (fit ∙ c.if-not-is_fit.false)) in
    let new = adds_found _ _ c.args.reply _ _ _ c.in-Ok.ensures c.in-Ok-try_from.ensures c.string-string.ensures c.is_new.ensures in
    let g = reply_full st c.args.reply good is.0 is.1 (rw (← parts.0, ← parts.1) (new ∙ c.if-is_new.true)) (rw (← parts.0) (omega (arith, c.in_default-first_unused.ensures))) in
    record { answer = g.answer; left = same ∙ g.left }

pub returns : goal.returns
unfolding added list_of wait_of
returns c =
    let st = c.args.state.now in
    let parts = c.in-Some.ensures.cases in
    let good = rw (parts_make st parts.0 parts.1) at (sym c.parts_good.ensures ∙ c.if-not-parts_good.false) in
    let fit = fit_found [] _ c.args.reply _ _ _ c.in-Ok.ensures c.in-Ok-try_from.ensures c.string-string.ensures c.is_fit.ensures in
    let is = fit_is st c.args.reply (rw (← parts.1) (fit ∙ c.if-not-is_fit.false)) in
    let new = adds_found _ _ c.args.reply _ _ _ c.in-Ok.ensures c.in-Ok-try_from.ensures c.string-string.ensures c.is_new.ensures in
    let asked = rw parts.1 at c.string-string.ensures in
    let long : length c.in-Some.wait.now ≡ 15 = search rules in
    let over : c.fill.new.self ≡ nothing = c.fill.ensures.after (λ y e. e) ∙ ap (λ (k : ℕ). replicate k 0) long in
    elim c.if-is_new.branch [
      | then-is_new+in-Some-first_unused w ↦
          let at = w.in-Some-first_unused.ensures in
          let g = reply_adds st c.args.reply good is.0 is.1 (rw (← parts.0, ← parts.1) (new ∙ w.if-is_new.true)) (rw (← parts.0) (omega (arith, at.0, at.1))) in
          record { answer = g.answer; left = rw (w.list-is, w.put.ensures, at.0, over, asked, parts.0) g.left }
      | else-is_new w ↦
          let g = reply_adds_none st c.args.reply good is.0 is.1 (rw (← parts.0, ← parts.1) (new ∙ w.if-is_new.false)) in
          record { answer = g.answer; left = rw (w.list-is, over, parts.0) g.left }
    ]
