use Rattle.master.specs.Frames.{name_found, number_given, login_effect}
use Rattle.master.specs.Answers.{told}
use Rattle.who.proofs.WhoLaws.{good_is, lowest_number_is}
use Rattle.who.specs.Logins.{lowest_number, logged_in_as, after_login}
use Rattle.who.specs.Good.{numbers}
use Rattle.rows.specs.Numbers.{low_first}
use Rattle.rows.specs.Rows.{part}
use borrow.Author.Tests.{ne_eqb, lt-ltb, le-ltb}
use lib.Seq.{take_all}
use lib.Dec.{eqb}
use lib.ListN.{length}
use mathlib.Core.Bool.{false}
use mathlib.Core.List.{List}
use mathlib.Core.Path.{◌≡◌, ap, ◌∙◌}
use native.Mathlib.Omega.{arith}
use Prim.Native.Nat.{ℕ, ◌≤◌, ◌<◌}
use borrow.Author.Rules.{rules}
use Rattle.master.proofs.commands.log_in.Goals as goal

-- all of a list of four
whole : (l : List ℕ) → length l ≡ 4 → part l 0 4 ≡ l
unfolding part
whole l full = take_all 4 l (omega arith)

pub returns-in_default : goal.returns-in_default
unfolding told login_effect number_given
returns-in_default c t = let a = c.args in
    let full : length a.q.serial ≡ 4 = search rules in
    let none : numbers ≤ lowest_number a.records.now = omega (arith, c.in_default.ensures, (good_is a.records.now c.requires).sized) in
    let sent : c.low_first_at-sent.result ≡ low_first a.q.serial = c.low_first_at-sent.ensures ∙ ap low_first (whole a.q.serial full) in
    record { answer = rw (le-ltb _ numbers none, sent); locks = rw (le-ltb _ numbers none); records = rw (le-ltb _ numbers none) }

pub overflow_cast-result : goal.overflow_cast-result
overflow_cast-result c = record { fits = omega (arith, (good_is c.args.records.now c.requires).sized, c.in-Some.ensures.1) }

pub put_station-requires : goal.put_station-requires
put_station-requires c = omega (arith, (good_is c.args.records.now c.requires).sized, c.in-Some.ensures.1)

pub returns : goal.returns
unfolding told login_effect number_given name_found after_login logged_in_as
returns c t = let a = c.args in
    let full : length a.q.serial ≡ 4 = search rules in
    let at = c.in-Some.ensures in
    let long = (good_is a.records.now c.requires).sized in
    let some : lowest_number a.records.now < numbers = omega (arith, at.0, at.1, long) in
    let sent : c.low_first_at-sent.result ≡ low_first a.q.serial = c.low_first_at-sent.ensures ∙ ap low_first (whole a.q.serial full) in
    let first : eqb (lowest_number a.records.now) 0 ≡ false = ne_eqb _ _ (λ (z : lowest_number a.records.now ≡ 0). omega (arith, (lowest_number_is a.records.now long some).0)) in
    record {
      answer = rw (lt-ltb _ numbers some, first, sent, at.0, c.has_user-found.ensures.answer);
      locks = rw (lt-ltb _ numbers some, first);
      records = rw (lt-ltb _ numbers some, first) (c.put_station.ensures ∙ rw (at.0, c.has_user-found.ensures.answer));
    }
