-- The fields of a frame: those that were written read back, and those that were read are written as they stood.
use Prim.Native.Nat.{ℕ, suc, ◌+◌, ◌≤◌, ◌<◌}
use native.Mathlib.Omega.{arith}
use mathlib.Core.Path.{◌≡◌, refl, sym, ap, ◌∙◌}
use mathlib.Core.List.{List, [], ◌∷◌, ◌++◌, append_assoc}
use lib.ListN.{length, drop, get_or, length-append, length-drop, drop_of_length-le}
use lib.Seq.{get_or_at, take_all, drop-cons}
use Rattle.rows.proofs.BuildLaws.{build_list}
use Rattle.rows.proofs.RowLaws.{part_rest, part_mid, part_end}
use Rattle.rows.proofs.NumberLaws.{Bytes, low_back, part_back, two_bytes}
use Rattle.rows.specs.Words.{build}
use Rattle.rows.specs.Rows.{part}
use Rattle.rows.specs.Numbers.{low_bytes}
use Rattle.terms.specs.declared.Address.{Address}
use Rattle.terms.specs.declared.LockString.{LockString}
use Rattle.frames.specs.declared.Request.{Request}
use Rattle.frames.specs.declared.Command.{Command}
use Rattle.frames.specs.declared.Command.TheVariants.{Acknowledge, Read, Write, Login, Assign, Lock, Unlock, Clear, Logout}
use Rattle.frames.specs.Table.{READ, WRITE, LOGIN, ASSIGN, LOCK, UNLOCK}
use Rattle.frames.specs.Requests.{plain, carried_by}
use Rattle.terms.specs.Strings.{string_at, string_bytes}
use Rattle.frames.specs.Reading.{code, address_in, named_in, login_in, string_request, request_in}
use Rattle.frames.specs.Writing.{address_fields, named_fields, login_fields, code_of, fields_of}
use Rattle.frames.proofs.WriteLaws.{Sized}

-- a track is a number of two bytes
abbrev pub TrackFits : Command → Type 0
TrackFits Acknowledge = Unit
TrackFits (Read src a) = a.track.0 < 65536
TrackFits (Write src a) = a.track.0 < 65536
TrackFits (Login product) = Unit
TrackFits Assign = Unit
TrackFits Lock = Unit
TrackFits Unlock = Unit
TrackFits Clear = Unit
TrackFits (Logout src) = Unit

-- the fields that were written behind a code k read back
module _ (k : ℕ) where
  pub address_reads : (src : ℕ) (a : Address) → a.track.0 < 65536 → address_in (k ∷ address_fields src a) ≡ a
  unfolding address_in address_fields low_bytes part
  address_reads src a small = rw (low_back 2 a.track.0 small)

  string_reads : (s : LockString) → length s.bytes ≡ 13 → part (k ∷ string_bytes s) 2 13 ≡ s.bytes
  string_reads s full = part_end (k ∷ s.len ∷ []) s.bytes 2 13 refl full

-- what was written for a command reads back as what the command carries
pub fields_read : (c : Command) (q : Request) → Sized q → TrackFits c → request_in (code_of c ∷ fields_of c q) ≡ carried_by c q
unfolding request_in named_in login_in string_request string_at code_of fields_of address_fields named_fields login_fields carried_by
fields_read Acknowledge q s t = refl
fields_read (Read src a) q s t = ap (λ (b : Address). plain (Read src b)) (address_reads READ src a t)
fields_read (Write src a) q s t = ap (λ (b : Address). plain (Write src b)) (address_reads WRITE src a t)
fields_read (Login product) q s t =
    let named : List ℕ = q.name ++ q.password in
    let long : length (LOGIN ∷ named) ≡ 15 = simp length-append (omega (arith, s.name, s.password)) in
    rw (
      part_mid (LOGIN ∷ []) q.name 1 8 refl s.name (q.password ++ (q.serial ++ (product ∷ []))),
      part_mid (LOGIN ∷ q.name) q.password 9 6 (omega (arith, s.name)) s.password (q.serial ++ (product ∷ [])),
      ← append_assoc q.name q.password (q.serial ++ (product ∷ [])),
      part_mid (LOGIN ∷ named) q.serial 15 4 long s.serial (product ∷ []),
      ← append_assoc (LOGIN ∷ named) q.serial (product ∷ []),
      get_or_at ((LOGIN ∷ named) ++ q.serial) product [] 0 19 (simp length-append (omega (arith, long, s.serial))),
    )
fields_read Assign q s t = rw (part_mid (ASSIGN ∷ []) q.name 1 8 refl s.name q.password, part_end (ASSIGN ∷ q.name) q.password 9 6 (omega (arith, s.name)) s.password)
fields_read Lock q s t = rw (string_reads LOCK q.string s.string)
fields_read Unlock q s t = rw (string_reads UNLOCK q.string s.string)
fields_read Clear q s t = refl
fields_read (Logout src) q s t = refl

-- a part that reaches to the end, and the last byte
part_last : (f : List ℕ) (at n : ℕ) → length f ≡ at + n → part f at n ≡ drop at f
unfolding part
part_last f at n h = take_all n (drop at f) (simp length-drop (omega arith))

byte_last : (f : List ℕ) (at : ℕ) → length f ≡ at + 1 → get_or f at 0 ∷ [] ≡ drop at f
byte_last f at h = sym (drop-cons f at 0 (omega arith) ∙ rw (drop_of_length-le f {i = suc at} (omega arith)))

-- the fields of a frame with the code k are written again as they stood
module _ (f : List ℕ) {k : ℕ} (e : code f ≡ k) where
  first_again : 1 ≤ length f → k ∷ drop 1 f ≡ f
  first_again h = rw (← e) (sym (drop-cons f 0 0 h))

  pub none_again : length f ≡ 1 → k ∷ [] ≡ f
  none_again h = rw (← e) (byte_last f 0 h)

  pub byte_again : length f ≡ 2 → k ∷ get_or f 1 0 ∷ [] ≡ f
  byte_again h = rw (byte_last f 1 h) (first_again (omega arith))

  pub address_again : Bytes f → length f ≡ 8 → get_or f 1 0 ≡ 0 → k ∷ address_fields (get_or f 2 0) (address_in f) ≡ f
  unfolding address_fields address_in build
  address_again b h dtn = rw (part_back f 4 2 b (omega arith), two_bytes f 4 (omega arith), ← e) (rw dtn at (build_list f 8 h))

  pub named_again : length f ≡ 15 → k ∷ (part f 1 8 ++ part f 9 6) ≡ f
  named_again h = rw (part_last f 9 6 h, part_rest f 1 8) (first_again (omega arith))

  pub login_again : length f ≡ 20 → k ∷ (part f 1 8 ++ (part f 9 6 ++ (part f 15 4 ++ (get_or f 19 0 ∷ [])))) ≡ f
  login_again h = rw (byte_last f 19 h, part_rest f 15 4, part_rest f 9 6, part_rest f 1 8) (first_again (omega arith))

  pub string_again : length f ≡ 15 → k ∷ get_or f 1 0 ∷ part f 2 13 ≡ f
  string_again h = rw (part_last f 2 13 h, ← drop-cons f 1 0 (omega arith)) (first_again (omega arith))
