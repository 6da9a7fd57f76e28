-- What an entry does: what it tells, and the tables it leaves. The station records are bytes, or records as such.
use Rattle.std.specs.Prelude.{ℕ, ◌≡◌, cond, List, eqb}
use Rattle.master.specs.Answers.{Told, refuses}

pub record Effect (A : Type 0) : Type 0 where
  pub tells : Told
  pub locks : List ℕ
  pub records : A

-- this is told, and these tables are left
abbrev pub telling : {A : Type 0} → Told → List ℕ → A → Effect A
telling a t w = record { tells = a; locks = t; records = w }

-- one thing and then another, on the tables that the first left; what the other tells is told
abbrev pub afterwards : {A : Type 0} → Effect A → (List ℕ → A → Effect A) → Effect A
afterwards e next = next e.locks e.records

-- refused with k, which tells a, and the tables t and w are as they were; or, with 0 for none, what is done
abbrev pub unless_told : {A : Type 0} → ℕ → Told → List ℕ → A → Effect A → Effect A
unless_told k a t w done = cond (eqb k 0) done (telling a t w)

-- the same where the number is all that is told
unfoldable pub unless : {A : Type 0} → ℕ → List ℕ → A → Effect A → Effect A
unless k t w done = unless_told k (refuses k) t w done

-- an entry told this and left these tables, whole
pub record Does {A : Type 0} (e : Effect A) (told : Told) (t' : List ℕ) (w' : A) : Type 0 where
  pub answer : told ≡ e.tells
  pub locks : t' ≡ e.locks
  pub records : w' ≡ e.records
