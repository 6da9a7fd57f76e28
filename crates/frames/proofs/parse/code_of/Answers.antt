use Prim.Native.Nat.{◌<◌}
use mathlib.Core.Bool.{true}
use lib.ListN.{length, get_or}
use Rattle.frames.specs.Codes.{byte_of}
use Rattle.frames.specs.Table.{frame_length, carries_address}
use Rattle.frames.specs.Reading.{code}
use Rattle.frames.proofs.TableLaws.{address_long, code_known}
use Rattle.frames.proofs.ReadLaws.{is_well, empty_1, unknown_3, long_4, dtn_6}
use Rattle.rows.proofs.BoolLaws.{both}
use native.Mathlib.Omega.{arith}
use mathlib.Core.Path.{◌≡◌, sym, ◌∙◌}
use borrow.Author.Rules.{rules}
use Rattle.frames.proofs.parse.code_of.Goals as goal
use Rattle.frames.proofs.parse.code_of.Goals.{else-has_address-via-then-has_address+else-frame-ne0, else-has_address-via-else-has_address}

pub returns-then-is_empty : goal.returns-then-is_empty
returns-then-is_empty c = let e : length c.args.frame.now ≡ 0 = search rules in empty_1 _ e

pub returns-in_err-code : goal.returns-in_err-code
returns-in_err-code c =
    let full : length c.args.frame.now ≡ 0 → ⊥ = λ (e : length c.args.frame.now ≡ 0). search rules in
    let none : frame_length (code c.args.frame.now) ≡ 0 = search rules in
    let three = unknown_3 c.args.frame.now full none in search rules

pub returns-then-frame-frame_length : goal.returns-then-frame-frame_length
returns-then-frame-frame_length c =
    let f = c.args.frame.now in
    let full : length f ≡ 0 → ⊥ = λ (e : length f ≡ 0). search rules in
    let is : code f ≡ byte_of c.in_ok-code.code = search rules in
    long_4 f full (code_known _ _ is) (λ e. c.if-frame-frame_length.true (e ∙ rw is (sym c.frame_length.ensures)))

pub bounds-frame-1 : goal.bounds-frame-1
bounds-frame-1 c =
    let long = address_long _ (sym c.has_address.ensures ∙ c.if-has_address.true) in
    let is : 1 < length c.args.frame.now = omega (arith, c.frame_length.ensures, c.if-frame-frame_length.false) in search rules

pub returns-then-frame-ne0 : goal.returns-then-frame-ne0
returns-then-frame-ne0 c =
    let f = c.args.frame.now in
    let full : length f ≡ 0 → ⊥ = λ (e : length f ≡ 0). search rules in
    let is : code f ≡ byte_of c.in_ok-code.code = search rules in
    dtn_6 f full (code_known _ _ is) (rw is (c.if-frame-frame_length.false ∙ c.frame_length.ensures)) (rw is (sym c.has_address.ensures ∙ c.if-has_address.true)) c.if-frame-ne0.true

pub returns : goal.returns
returns c =
    let f = c.args.frame.now in
    let is : code f ≡ byte_of c.in_ok-code.code = search rules in
    let long : length f ≡ frame_length (code f) = rw is (c.if-frame-frame_length.false ∙ c.frame_length.ensures) in
    let has : carries_address (code f) ≡ c.has_address.result = rw is (sym c.has_address.ensures) in
    let dtn : carries_address (code f) ≡ true → get_or f 1 0 ≡ 0 = elim c.else-has_address.branch [
      | else-has_address-via-then-has_address+else-frame-ne0 w ↦ λ y. w.if-frame-ne0.false
      | else-has_address-via-else-has_address w ↦ λ y. both y (has ∙ w.if-has_address.false)
    ] in
    (is_well f (record { known = code_known _ _ is; long = long; dtn = dtn }), c.if-frame-frame_length.false ∙ c.frame_length.ensures, is)
