use Prim.Native.Nat.{ℕ}
use mathlib.Core.List.{List}
use mathlib.Core.Path.{◌≡◌, sym, ap, ◌∙◌}
use lib.ListN.{length}
use Rattle.refusals.specs.Refusals.{number}
use Rattle.frames.specs.Table.{frame_length}
use Rattle.frames.specs.Reading.{code, request_in}
use Rattle.frames.specs.Codes.{byte_of}
use Rattle.frames.specs.declared.Request.{Request}
use Rattle.frames.specs.declared.code.Code.{Code}
use Rattle.frames.proofs.ReadLaws.{reading_refuses, reading_gives}
use Rattle.frames.proofs.TableLaws.{code_known}
use Rattle.who.specs.Logins.{logged_in}
use Rattle.master.specs.Refusals.{misplaced, src_differs, frame_tests}
use Rattle.master.specs.Inner.{sent_elsewhere}
use Rattle.master.proofs.RefusalLaws.{unknown_is, test_1, test_2, test_3, test_4, test_5, test_6, test_7, test_none, elsewhere_is}
use borrow.Author.Rules.{rules}
use Rattle.master.proofs.checks.request_at.Goals as goal

-- the length of a frame with this code
long_as : (f : List ℕ) (c : Code) (k : ℕ) → code f ≡ byte_of c → k ≡ frame_length (byte_of c) → length f ≡ k → length f ≡ frame_length (code f)
long_as f c k is e l = l ∙ e ∙ ap frame_length (sym is)

-- whether the request that was read has another src
src_as : (n : ℕ) (f : List ℕ) (c : Code) (q : Request) → code f ≡ byte_of c → q ≡ request_in f → src_differs n f ≡ sent_elsewhere n q.command
src_as n f c q is e = sym (elsewhere_is n f (code_known _ c is)) ∙ ap (λ (x : Request). sent_elsewhere n x.command) (sym e)

pub returns-then-frame-eq0 : goal.returns-then-frame-eq0
returns-then-frame-eq0 c = test_1 c.args.number c.args.frame.now c.args.records.now c.if-frame-eq0.true

pub returns-then-is_unknown : goal.returns-then-is_unknown
returns-then-is_unknown c = let a = c.args in
    test_2 a.number a.frame.now a.records.now c.if-frame-eq0.false (unknown_is (logged_in a.records.now) a.number c.is_in.ensures.answer ∙ sym c.is_unknown.ensures ∙ c.if-is_unknown.true)

pub returns-in_err-code : goal.returns-in_err-code
returns-in_err-code c = let a = c.args in
    let known = unknown_is (logged_in a.records.now) a.number c.is_in.ensures.answer ∙ sym c.is_unknown.ensures ∙ c.if-is_unknown.false in
    let refused : frame_tests a.number a.frame.now a.records.now 0 ≡ number c.in_err-code.field-0.0 = test_3 a.number a.frame.now a.records.now c.if-frame-eq0.false known c.in_err-code.ensures.0 ∙ ap number (sym c.in_err-code.ensures.1) in
    search rules

pub returns-then-frame-frame_length : goal.returns-then-frame-frame_length
returns-then-frame-frame_length c = let a = c.args in
    let known = unknown_is (logged_in a.records.now) a.number c.is_in.ensures.answer ∙ sym c.is_unknown.ensures ∙ c.if-is_unknown.false in
    let is = c.in_ok-code.ensures in
    test_4 a.number a.frame.now a.records.now c.if-frame-eq0.false known (code_known _ _ is) (λ e. c.if-frame-frame_length.true (e ∙ ap frame_length is ∙ sym c.frame_length.ensures))

pub returns-then-is_misplaced : goal.returns-then-is_misplaced
returns-then-is_misplaced c = let a = c.args in
    let known = unknown_is (logged_in a.records.now) a.number c.is_in.ensures.answer ∙ sym c.is_unknown.ensures ∙ c.if-is_unknown.false in
    let is = c.in_ok-code.ensures in
    test_5 a.number a.frame.now a.records.now c.if-frame-eq0.false known (code_known _ _ is) (long_as _ _ _ is c.frame_length.ensures c.if-frame-frame_length.false) (ap (misplaced a.number) is ∙ sym c.is_misplaced.ensures ∙ c.if-is_misplaced.true)

pub returns-in_err-request : goal.returns-in_err-request
returns-in_err-request c = let a = c.args in
    let known = unknown_is (logged_in a.records.now) a.number c.is_in.ensures.answer ∙ sym c.is_unknown.ensures ∙ c.if-is_unknown.false in
    let is = c.in_ok-code.ensures in
    let seat = ap (misplaced a.number) is ∙ sym c.is_misplaced.ensures ∙ c.if-is_misplaced.false in
    let refused : frame_tests a.number a.frame.now a.records.now 0 ≡ number c.in_err-request.field-0.0 =
    test_6 a.number a.frame.now a.records.now c.if-frame-eq0.false known (code_known _ _ is) (long_as _ _ _ is c.frame_length.ensures c.if-frame-frame_length.false) seat _ (sym (reading_refuses a.frame.now) ∙ c.in_err-request.ensures) in
    search rules

pub returns-then-is_sent_elsewhere : goal.returns-then-is_sent_elsewhere
returns-then-is_sent_elsewhere c = let a = c.args in
    let known = unknown_is (logged_in a.records.now) a.number c.is_in.ensures.answer ∙ sym c.is_unknown.ensures ∙ c.if-is_unknown.false in
    let is = c.in_ok-code.ensures in
    let seat = ap (misplaced a.number) is ∙ sym c.is_misplaced.ensures ∙ c.if-is_misplaced.false in
    let reads = sym (reading_refuses a.frame.now) ∙ c.in_ok-request.ensures.0 in
    let request = c.in_ok-request.ensures.1 ∙ reading_gives a.frame.now reads in
    test_7 a.number a.frame.now a.records.now c.if-frame-eq0.false known (code_known _ _ is) (long_as _ _ _ is c.frame_length.ensures c.if-frame-frame_length.false) seat reads
    (src_as _ _ _ _ is request ∙ sym c.is_sent_elsewhere.ensures ∙ c.if-is_sent_elsewhere.true)

pub returns : goal.returns
returns c = let a = c.args in
    let known = unknown_is (logged_in a.records.now) a.number c.is_in.ensures.answer ∙ sym c.is_unknown.ensures ∙ c.if-is_unknown.false in
    let is = c.in_ok-code.ensures in
    let seat = ap (misplaced a.number) is ∙ sym c.is_misplaced.ensures ∙ c.if-is_misplaced.false in
    let reads = sym (reading_refuses a.frame.now) ∙ c.in_ok-request.ensures.0 in
    let request = c.in_ok-request.ensures.1 ∙ reading_gives a.frame.now reads in (
      test_none a.number a.frame.now a.records.now c.if-frame-eq0.false known (code_known _ _ is) (long_as _ _ _ is c.frame_length.ensures c.if-frame-frame_length.false) seat reads
          (src_as _ _ _ _ is request ∙ sym c.is_sent_elsewhere.ensures ∙ c.if-is_sent_elsewhere.false),
      request,
    )
