-- The laws of `decimal`: it is what std writes of a number, and it has at most twenty digits.
use Rattle.std.proofs.Common.{◌≡◌, ℕ, zero, suc, ◌/◌, ◌%◌, ◌^◌, ◌≤◌, ◌<◌, length, sym, arith, length-append}
use Rattle.std.specs.Fmt.{decimal as std_decimal}
use Rattle.std.proofs.lemmas.Fmt.{AppendsLastDigit, decimal_from_appends, length-decimal-le}
use borrow.Author.Tests.{lt-ltb, le-ltb}
use lib.Dec.{ltb}
use Rattle.rows.proofs.BoolLaws.{by_test}
use Rattle.lines.specs.Line.{digit, decimal_in, decimal}

appends : AppendsLastDigit decimal_in
unfolding decimal_in digit
appends = record { one = λ k n h. rw (lt-ltb n 10 h); more = λ k n h. rw (le-ltb n 10 h, lt-ltb (n % 10) 10 (omega arith)) }

pub decimal_is : (n : ℕ) → n < 2 ^ 64 → std_decimal n ≡ decimal n
unfolding decimal
decimal_is n h = sym (decimal_from_appends decimal_in appends 20 n h (length-decimal-le 20 n (omega arith) (omega arith) h))

decimal_in_long : (k n : ℕ) → length (decimal_in k n) ≤ k
unfolding decimal_in
decimal_in_long zero n = omega arith
decimal_in_long (suc k) n = by_test (ltb n 10)
    (λ y. rw y (omega arith))
    (λ m. rw (m, length-append) (omega (arith, decimal_in_long k (n / 10))))

pub decimal_long : (n : ℕ) → length (decimal n) ≤ 20
unfolding decimal
decimal_long n = decimal_in_long 20 n
