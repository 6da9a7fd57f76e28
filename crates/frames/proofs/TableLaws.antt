-- The laws of specs/Table.antt: a code with a length is one of the nine, and an address has one length.
use Prim.Native.Nat.{ℕ}
use native.Mathlib.Omega.{arith}
use mathlib.Core.Path.{◌≡◌}
use mathlib.Core.Bool.{true, false}
use borrow.Author.Tests.{ne_eqb}
use Rattle.rows.proofs.BoolLaws.{by_eq, both}
use Rattle.frames.specs.declared.code.Code.{Code as Kind}
use Rattle.frames.specs.declared.code.Code.TheVariants.{Acknowledge, Read, Write, Login, Assign, Lock, Unlock, Clear, Logout}
use Rattle.frames.specs.Codes.{byte_of}
use Rattle.frames.specs.Table.{ACKNOWLEDGE, READ, WRITE, LOGIN, ASSIGN, LOCK, UNLOCK, CLEAR, LOGOUT, frame_table, length_in, frame_length, carries_address}

-- a code that is none of the nine has no length
pub unknown_length : (n : ℕ) → (n ≡ ACKNOWLEDGE → ⊥) → (n ≡ READ → ⊥) → (n ≡ WRITE → ⊥) → (n ≡ LOGIN → ⊥) → (n ≡ ASSIGN → ⊥)
    → (n ≡ LOCK → ⊥) → (n ≡ UNLOCK → ⊥) → (n ≡ CLEAR → ⊥) → (n ≡ LOGOUT → ⊥) → frame_length n ≡ 0
unfolding frame_length length_in frame_table
unknown_length n a r w l s k u c o =
    rw (ne_eqb n ACKNOWLEDGE a, ne_eqb n READ r, ne_eqb n WRITE w, ne_eqb n LOGIN l, ne_eqb n ASSIGN s, ne_eqb n LOCK k, ne_eqb n UNLOCK u, ne_eqb n CLEAR c, ne_eqb n LOGOUT o)

-- which of the nine a code is
pub data Code (n : ℕ) : Type 0 where
  acknowledge : n ≡ ACKNOWLEDGE → Code n
  read : n ≡ READ → Code n
  write : n ≡ WRITE → Code n
  login : n ≡ LOGIN → Code n
  assign : n ≡ ASSIGN → Code n
  lock : n ≡ LOCK → Code n
  unlock : n ≡ UNLOCK → Code n
  clear : n ≡ CLEAR → Code n
  logout : n ≡ LOGOUT → Code n

pub code_is : (n : ℕ) → (frame_length n ≡ 0 → ⊥) → Code n
code_is n known =
    by_eq n ACKNOWLEDGE acknowledge λ a.
    by_eq n READ read λ r.
    by_eq n WRITE write λ w.
    by_eq n LOGIN login λ l.
    by_eq n ASSIGN assign λ s.
    by_eq n LOCK lock λ k.
    by_eq n UNLOCK unlock λ u.
    by_eq n CLEAR clear λ c.
    by_eq n LOGOUT logout λ o.
    absurd (known (unknown_length n a r w l s k u c o))

-- the frames with an address have one length
pub address_long : (n : ℕ) → carries_address n ≡ true → frame_length n ≡ 8
unfolding frame_length length_in frame_table carries_address
address_long n h = by_eq n READ (λ (e : n ≡ READ). rw e) λ r.
    by_eq n WRITE (λ (e : n ≡ WRITE). rw e) λ w.
    both h (rw (ne_eqb n READ r, ne_eqb n WRITE w))

-- each code of the type is in the table
pub kind_known : (c : Kind) → frame_length (byte_of c) ≡ 0 → ⊥
unfolding frame_length length_in frame_table
kind_known Acknowledge e = omega arith
kind_known Read e = omega arith
kind_known Write e = omega arith
kind_known Login e = omega arith
kind_known Assign e = omega arith
kind_known Lock e = omega arith
kind_known Unlock e = omega arith
kind_known Clear e = omega arith
kind_known Logout e = omega arith

pub code_known : (n : ℕ) (c : Kind) → n ≡ byte_of c → frame_length n ≡ 0 → ⊥
code_known n c e = rw e (kind_known c)

-- so a byte that is no code carries no address
pub unknown_bare : (n : ℕ) → frame_length n ≡ 0 → carries_address n ≡ false
unfolding carries_address
unknown_bare n z = by_eq n READ
    (λ e. absurd (code_known n Read e z))
    (λ r. by_eq n WRITE (λ e. absurd (code_known n Write e z)) (λ w. rw (ne_eqb n READ r, ne_eqb n WRITE w)))
