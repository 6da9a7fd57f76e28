-- The laws of specs/Writing.antt: the length of a frame, a frame put down part by part, and what is no part of it.
use Prim.Native.Nat.{ℕ, ◌≤◌}
use native.Mathlib.Omega.{arith}
use mathlib.Core.Path.{◌≡◌, refl, sym, ap, ◌∙◌}
use mathlib.Core.Bool.{true}
use mathlib.Core.List.{List, [], ◌∷◌, ◌++◌, append_assoc}
use lib.ListN.{length, get_or, length-append}
use Rattle.std.proofs.lemmas.List.{take-append-drop}
use Rattle.rows.proofs.BoolLaws.{both}
use Rattle.rows.proofs.RowLaws.{put_next, over_first, over_next}
use Rattle.rows.proofs.NumberLaws.{length_low_bytes}
use Rattle.rows.specs.Rows.{put, over}
use Rattle.frames.specs.declared.Command.{Command}
use Rattle.frames.specs.declared.Command.TheVariants.{Acknowledge, Read, Write, Login, Assign, Lock, Unlock, Clear, Logout}
use Rattle.frames.specs.declared.Request.{Request}
use Rattle.frames.specs.Table.{frame_table, length_in, frame_length, carries_address}
use Rattle.frames.specs.Requests.{plain, carried_by}
use Rattle.frames.specs.Writing.{address_fields, named_fields, login_fields, code_of, fields_of, frame_of}

-- the lengths of the byte fields of every request
pub record Sized (q : Request) : Type 0 where
  pub name : length q.name ≡ 8
  pub password : length q.password ≡ 6
  pub serial : length q.serial ≡ 4
  pub string : length q.string.bytes ≡ 13

-- a frame has the length beside its code
fields_long : (c : Command) (q : Request) → Sized q → length (code_of c ∷ fields_of c q) ≡ frame_length (code_of c)
unfolding code_of fields_of address_fields named_fields login_fields frame_length length_in frame_table
fields_long Acknowledge q s = refl
fields_long (Read src a) q s = simp (length-append, length_low_bytes)
fields_long (Write src a) q s = simp (length-append, length_low_bytes)
fields_long (Login product) q s = simp length-append (omega arith)
fields_long Assign q s = simp length-append (omega arith)
fields_long Lock q s = omega arith
fields_long Unlock q s = omega arith
fields_long Clear q s = refl
fields_long (Logout src) q s = refl

pub frame_long : (q : Request) (c : Command) → Sized q → q.command ≡ c → length (frame_of q) ≡ frame_length (code_of c)
unfolding frame_of
frame_long q c s e = fields_long q.command q s ∙ ap (λ (d : Command). frame_length (code_of d)) e

-- no bytes put down, and parts put down one after the other
pub put_none : (l : List ℕ) (at : ℕ) → l ≡ put l at []
unfolding put
put_none l at = sym (take-append-drop at l)

module _ (q : Request) (sized : Sized q) (l : List ℕ) where
  pub named_put : 15 ≤ length l → put (put l 1 q.name) 9 q.password ≡ put l 1 (named_fields q)
  unfolding named_fields
  named_put room = put_next l q.name q.password 1 9 (omega (arith, sized.name)) (omega (arith, sized.password))

  pub login_put : (product : ℕ) → 20 ≤ length l → put (put (put l 1 (named_fields q)) 15 q.serial) 19 (product ∷ []) ≡ put l 1 (login_fields q product)
  unfolding named_fields login_fields
  login_put product room =
      let named : List ℕ = q.name ++ q.password in
      let long : length named ≡ 14 = simp length-append (omega (arith, sized.name, sized.password)) in
      rw (
        put_next l named q.serial 1 15 (omega arith) (omega (arith, sized.serial)),
        put_next l (named ++ q.serial) (product ∷ []) 1 19 (simp length-append (omega (arith, long, sized.serial))) room,
        append_assoc named q.serial (product ∷ []),
        append_assoc q.name q.password (q.serial ++ (product ∷ [])),
      )

  -- the code first, and its fields after it
  pub frame_put : (c : ℕ) → c ≡ code_of q.command → length (frame_of q) ≤ length l → put (put l 0 (c ∷ [])) 1 (fields_of q.command q) ≡ over (frame_of q) l
  unfolding frame_of
  frame_put c e fits = rw (e, over_first l (code_of q.command ∷ [])) (over_next l (code_of q.command ∷ []) (fields_of q.command q) 1 refl (omega (arith, fits)))

-- the frame of a read or a write has dtn 0
pub dtn_zero : (c : Command) (q : Request) → carries_address (code_of c) ≡ true → get_or (code_of c ∷ fields_of c q) 1 0 ≡ 0
unfolding code_of fields_of address_fields carries_address
dtn_zero Acknowledge q h = both h refl
dtn_zero (Read src a) q h = refl
dtn_zero (Write src a) q h = refl
dtn_zero (Login product) q h = both h refl
dtn_zero Assign q h = both h refl
dtn_zero Lock q h = both h refl
dtn_zero Unlock q h = both h refl
dtn_zero Clear q h = both h refl
dtn_zero (Logout src) q h = both h refl

-- the fields that a command does not carry are no part of its frame
pub carried_written : (c : Command) (q : Request) → frame_of (carried_by c q) ≡ code_of c ∷ fields_of c q
unfolding frame_of code_of fields_of named_fields login_fields carried_by plain
carried_written Acknowledge q = refl
carried_written (Read src a) q = refl
carried_written (Write src a) q = refl
carried_written (Login product) q = refl
carried_written Assign q = refl
carried_written Lock q = refl
carried_written Unlock q = refl
carried_written Clear q = refl
carried_written (Logout src) q = refl
