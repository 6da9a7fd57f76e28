-- The laws of the word: what stands in it reads back, so that two answers of the master never have one word.
use Prim.Native.Nat.{ℕ, ◌%◌, ◌≤◌, ◌<◌, ◌^◌}
use native.Mathlib.Omega.{arith}
use mathlib.Core.Path.{◌≡◌, refl, sym, ap, ◌∙◌}
use mathlib.Core.Bool.{Bool, true, false, ◌&&◌}
use lib.Dec.{eqb}
use borrow.Author.Tests.{eqb-false, ne_eqb}
use Rattle.rows.proofs.BoolLaws.{by_test}
use Rattle.who.specs.Records.{flag}
use Rattle.master.proofs.Outcomes.{refused_no_answer}
use Rattle.master.specs.Answers.{Told, refuses, refuses_site, answers, refusal_number, Answered, no_bytes, status_byte, assign_bytes, place_at, login_as, turn_was, frame_made, request_of, bits_of, line_of, honor_flag, answers_unless}
use Rattle.hinet.specs.Packing.{STATUS, ASSIGN, PLACE, LOGIN, TURN, WRITTEN, FAULT, BITS, LINE, BOOT, REQUEST, word, refusal_in, kind_in, bytes_in, told_in, answered_in, flag_in}

-- a flag
pub flag_small : (b : Bool) → flag b ≤ 1
unfolding flag
flag_small true = omega arith
flag_small false = omega arith

-- what fits a word: a refusal that is a byte and not 0, and values that fit their bytes
abbrev pub Tellable : Told → Type 0
Tellable (refuses k) = (1 ≤ k) × (k < 256)
Tellable (refuses_site part row breach) = (part < 256) × (row < 256) × (breach < 256)
Tellable (answers no_bytes) = Unit
Tellable (answers (status_byte status)) = status < 256
Tellable (answers (assign_bytes size partition control volume)) = (size < 256) × (partition < 256) × (control < 256) × (volume < 256)
Tellable (answers (place_at volume sector)) = (volume < 256) × (sector < 2 ^ 32)
Tellable (answers (login_as number found serial)) = (number < 256) × (serial < 2 ^ 32)
Tellable (answers (turn_was due out)) = Unit
Tellable (answers (frame_made length)) = length < 256
Tellable (answers (request_of code)) = code < 256
Tellable (answers (bits_of n)) = n < 2 ^ 32
Tellable (answers (line_of user n)) = (user < 256) × (n < 2 ^ 16)
Tellable (answers (honor_flag n)) = n < 256

-- what a word tells whose refusal is known, and the answer in one whose kind is known
refusal_is : (x : ℕ) → (refusal_in x ≡ 0 → ⊥) → kind_in x ≡ 0 → told_in x ≡ refuses (refusal_in x)
unfolding told_in
refusal_is x ne bare = rw (ne_eqb (refusal_in x) 0 ne, bare)

fault_is : (x a b c : ℕ) → refusal_in x ≡ 10 → kind_in x ≡ FAULT → bytes_in x 0 1 ≡ a → bytes_in x 1 1 ≡ b → bytes_in x 2 1 ≡ c → told_in x ≡ refuses_site a b c
unfolding told_in
fault_is x a b c r k e f g = rw (r, k, e, f, g)

answer_is : (x : ℕ) → refusal_in x ≡ 0 → (a : Answered) → answered_in x ≡ a → told_in x ≡ answers a
unfolding told_in
answer_is x e a f = rw (e, f)

nothing_is : answered_in 0 ≡ no_bytes
unfolding answered_in kind_in
nothing_is = refl

status_is : (x a : ℕ) → kind_in x ≡ STATUS → bytes_in x 0 1 ≡ a → answered_in x ≡ status_byte a
unfolding answered_in
status_is x a k e = rw (k, e)

assign_is : (x a b c d : ℕ) → kind_in x ≡ ASSIGN → bytes_in x 0 1 ≡ a → bytes_in x 1 1 ≡ b → bytes_in x 2 1 ≡ c → bytes_in x 3 1 ≡ d → answered_in x ≡ assign_bytes a b c d
unfolding answered_in
assign_is x a b c d k e f g h = rw (k, e, f, g, h)

place_is : (x a b : ℕ) → kind_in x ≡ PLACE → bytes_in x 0 1 ≡ a → bytes_in x 1 4 ≡ b → answered_in x ≡ place_at a b
unfolding answered_in
place_is x a b k e f = rw (k, e, f)

-- a flag that stands in its byte
flag_is : (x i : ℕ) (b : Bool) → bytes_in x i 1 ≡ flag b → flag_in x i ≡ b
unfolding flag_in flag
flag_is x i true e = rw e
flag_is x i false e = rw e

login_is : (x a : ℕ) (b : Bool) (c : ℕ) → kind_in x ≡ LOGIN → bytes_in x 0 1 ≡ a → bytes_in x 1 1 ≡ flag b → bytes_in x 2 4 ≡ c → answered_in x ≡ login_as a b c
unfolding answered_in
login_is x a b c k e f g = rw (k, e, flag_is x 1 b f, g)

turn_is : (x : ℕ) (a b : Bool) → kind_in x ≡ TURN → bytes_in x 0 1 ≡ flag a → bytes_in x 1 1 ≡ flag b → answered_in x ≡ turn_was a b
unfolding answered_in
turn_is x a b k e f = rw (k, flag_is x 0 a e, flag_is x 1 b f)

written_is : (x a : ℕ) → kind_in x ≡ WRITTEN → bytes_in x 0 1 ≡ a → answered_in x ≡ frame_made a
unfolding answered_in
written_is x a k e = rw (k, e)

request_is : (x a : ℕ) → kind_in x ≡ REQUEST → bytes_in x 0 1 ≡ a → answered_in x ≡ request_of a
unfolding answered_in
request_is x a k e = rw (k, e)

bits_is : (x a : ℕ) → kind_in x ≡ BITS → bytes_in x 0 4 ≡ a → answered_in x ≡ bits_of a
unfolding answered_in
bits_is x a k e = rw (k, e)

line_is : (x a b : ℕ) → kind_in x ≡ LINE → bytes_in x 0 1 ≡ a → bytes_in x 1 2 ≡ b → answered_in x ≡ line_of a b
unfolding answered_in
line_is x a b k e f = rw (k, e, f)

boot_is : (x a : ℕ) → kind_in x ≡ BOOT → bytes_in x 0 1 ≡ a → answered_in x ≡ honor_flag a
unfolding answered_in
boot_is x a k e = rw (k, e)

-- taking the word apart gives what was told
pub refusal_back : (k : ℕ) → (1 ≤ k) × (k < 256) → told_in k ≡ refuses k
unfolding refusal_in kind_in
refusal_back k h =
    let all : k % 256 ≡ k = omega arith in
    refusal_is k (λ z. omega arith) (omega arith) ∙ ap refuses all

pub word_back : (a : Told) → Tellable a → told_in (word a) ≡ a
unfolding word refusal_in kind_in bytes_in
word_back (refuses k) h = refusal_back k h
word_back (refuses_site a b c) h = fault_is _ a b c (omega arith) (omega arith) (omega arith) (omega arith) (omega arith)
word_back (answers no_bytes) h = answer_is 0 refl no_bytes nothing_is
word_back (answers (status_byte a)) h = answer_is _ (omega arith) _ (status_is _ a (omega arith) (omega arith))
word_back (answers (assign_bytes a b c d)) h = answer_is _ (omega arith) _ (assign_is _ a b c d (omega arith) (omega arith) (omega arith) (omega arith) (omega arith))
word_back (answers (place_at a b)) h = answer_is _ (omega arith) _ (place_is _ a b (omega arith) (omega arith) (omega arith))
word_back (answers (login_as a b c)) h =
    let s = flag_small b in
    answer_is _ (omega arith) _ (login_is _ a b c (omega arith) (omega arith) (omega arith) (omega arith))
word_back (answers (turn_was a b)) h =
    let s = flag_small a in
    let s' = flag_small b in
    answer_is _ (omega arith) _ (turn_is _ a b (omega arith) (omega arith) (omega arith))
word_back (answers (frame_made a)) h = answer_is _ (omega arith) _ (written_is _ a (omega arith) (omega arith))
word_back (answers (request_of a)) h = answer_is _ (omega arith) _ (request_is _ a (omega arith) (omega arith))
word_back (answers (bits_of a)) h = answer_is _ (omega arith) _ (bits_is _ a (omega arith) (omega arith))
word_back (answers (line_of a b)) h = answer_is _ (omega arith) _ (line_is _ a b (omega arith) (omega arith) (omega arith))
word_back (answers (honor_flag a)) h = answer_is _ (omega arith) _ (boot_is _ a (omega arith) (omega arith))

-- two answers never have one word
pub one_word : (a b : Told) → Tellable a → Tellable b → word a ≡ word b → a ≡ b
one_word a b x y e = sym (word_back a x) ∙ ap told_in e ∙ word_back b y

-- a word with a refusal in it tells no answer
told_refused : (x : ℕ) → (refusal_in x ≡ 0 → ⊥) → refusal_number (told_in x) ≡ 0 → ⊥
unfolding told_in refusal_number
told_refused x ne z = by_test (eqb (kind_in x) FAULT && eqb (refusal_in x) 10)
    (λ y. let lie : ◌≡◌ {A = ℕ} 10 0 = rw (ne_eqb (refusal_in x) 0 ne, y) at z in omega arith)
    (λ n. ne (rw (ne_eqb (refusal_in x) 0 ne, n) at z))

not_answered : (a : Answered) → Tellable (answers a) → (r : ℕ) → r ≡ word (answers a) → (refusal_in r ≡ 0 → ⊥) → ⊥
not_answered a fits r e ne = refused_no_answer (told_refused r ne) (ap told_in e ∙ word_back (answers a) fits)

-- a refused word has the number of what was told, and but for 10 it is that number alone
pub refused_told : (a : Told) → Tellable a → (r : ℕ) → r ≡ word a → (refusal_in r ≡ 0 → ⊥) → (refusal_number a ≡ refusal_in r) × ((refusal_in r ≡ 10 → ⊥) → r ≡ refusal_in r)
unfolding word refusal_in refusal_number
refused_told (refuses k) h r e ne = (omega arith, λ bare. omega arith)
refused_told (refuses_site a b c) h r e ne = (omega arith, λ bare. absurd (bare (omega arith)))
refused_told (answers a) h r e ne = absurd (not_answered a h r e ne)

-- an entry that has one refusal, 0 for none, and else this answer: its word tells that, and a refused one is the number alone
module _ (k : ℕ) (small : k < 256) (a : Answered) (fits : Tellable (answers a)) (r : ℕ) (e : r ≡ word (answers_unless k a)) where
  choice_fits : Tellable (answers_unless k a)
  choice_fits = by_test (eqb k 0) (λ y. rw y fits) (λ n. rw n (omega (arith, eqb-false k 0 n)))

  pub choice_tells : told_in r ≡ answers_unless k a
  choice_tells = ap told_in e ∙ word_back (answers_unless k a) choice_fits

  pub refused_choice : (refusal_in r ≡ 0 → ⊥) → (r ≡ refusal_in r) × (r ≡ k) × (eqb k 0 ≡ false)
  unfolding word refusal_in
  refused_choice ne = by_test (eqb k 0)
      (λ y. absurd (not_answered a fits r (e ∙ rw y) ne))
      (λ n. let is : r ≡ k = e ∙ rw n in (omega arith, is, n))
