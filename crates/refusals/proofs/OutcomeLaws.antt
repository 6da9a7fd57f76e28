-- Any two outcomes that a contract allows are equal.
use Rattle.std.proofs.Common.{◌≡◌, ◌-◌, ℕ, List, [], ◌∷◌, get_or, sym, ap, ◌∙◌, refl, arith}
use Rattle.std.specs.Prelude.{Result, Ok, Err}
use Rattle.refusals.specs.declared.Refusal.{Refusal}
use Rattle.refusals.specs.declared.Refusal.TheVariants.{EmptyFrame, NobodysNumber, UnknownCode, WrongLength, Misplaced, WrongDtn, WrongSource, NoSuchPartition, OutsidePartition, BadSiteFile, BadTables, HeardTooEarly, ShortBuffer, StillWaiting, UnfitReply, NoSuchSize, DataTooLong, NoFlag, SevenOnes, NoWholeBytes, TooFewBytes, WrongCheck, BadBootTables}
use Rattle.refusals.specs.Refusals.{number}
use Rattle.refusals.specs.Outcomes.{refusal_in, GivesUnless, LeavesUnless}

abbrev in_order : List Refusal
in_order = EmptyFrame ∷ NobodysNumber ∷ UnknownCode ∷ WrongLength ∷ Misplaced ∷ WrongDtn ∷ WrongSource ∷ NoSuchPartition ∷ OutsidePartition ∷ BadSiteFile ∷ BadTables ∷ HeardTooEarly ∷ ShortBuffer ∷ StillWaiting ∷ UnfitReply ∷ NoSuchSize ∷ DataTooLong ∷ NoFlag ∷ SevenOnes ∷ NoWholeBytes ∷ TooFewBytes ∷ WrongCheck ∷ BadBootTables ∷ []

-- the refusal of this number
abbrev pub named : ℕ → Refusal
named k = get_or in_order (k - 1) EmptyFrame

pub named_number : (r : Refusal) → named (number r) ≡ r
named_number EmptyFrame = refl
named_number NobodysNumber = refl
named_number UnknownCode = refl
named_number WrongLength = refl
named_number Misplaced = refl
named_number WrongDtn = refl
named_number WrongSource = refl
named_number NoSuchPartition = refl
named_number OutsidePartition = refl
named_number BadSiteFile = refl
named_number BadTables = refl
named_number HeardTooEarly = refl
named_number ShortBuffer = refl
named_number StillWaiting = refl
named_number UnfitReply = refl
named_number NoSuchSize = refl
named_number DataTooLong = refl
named_number NoFlag = refl
named_number SevenOnes = refl
named_number NoWholeBytes = refl
named_number TooFewBytes = refl
named_number WrongCheck = refl
named_number BadBootTables = refl

-- no two refusals have one number
pub number_one : (a b : Refusal) → number a ≡ number b → a ≡ b
number_one a b e = sym (named_number a) ∙ (ap named e ∙ named_number b)

-- and none has 0
pub number_never_0 : (r : Refusal) → number r ≡ 0 → ⊥
number_never_0 r z = let e = ap number (sym (named_number r) ∙ ap named z) in omega (arith, e, z)

pub gives_unless_one : {A : Type 0} (k : ℕ) (value : A) (r s : Result A Refusal) → GivesUnless k value r → GivesUnless k value s → r ≡ s
gives_unless_one k value (Ok a) (Ok b) x y = ap Ok (x.1 ∙ sym y.1)
gives_unless_one k value (Ok a) (Err s) x y = absurd (number_never_0 s (sym y ∙ x.0))
gives_unless_one k value (Err r) (Ok b) x y = absurd (number_never_0 r (sym x ∙ y.0))
gives_unless_one k value (Err r) (Err s) x y = ap Err (number_one r s (sym x ∙ y))

-- where nothing else is answered, the number of the refusal is the answer
pub refusal_in_one : (r s : Result (Unit {0}) Refusal) → refusal_in r ≡ refusal_in s → r ≡ s
refusal_in_one (Ok u) (Ok v) e = refl
refusal_in_one (Ok u) (Err s) e = absurd (number_never_0 s (sym e))
refusal_in_one (Err r) (Ok v) e = absurd (number_never_0 r e)
refusal_in_one (Err r) (Err s) e = ap Err (number_one r s e)

pub leaves_unless_one : {A : Type 0} {k : ℕ} {value : A} {bytes t u : List ℕ} (r s : Result A Refusal) → LeavesUnless k value bytes r t → LeavesUnless k value bytes s u → (r ≡ s) × (t ≡ u)
leaves_unless_one r s x y = (gives_unless_one _ _ r s x.answer y.answer, x.left ∙ sym y.left)
