-- What the loop keeps: the records from number n on keep the rules, and `word` is theirs.
use Rattle.std.proofs.Common.{◌≡◌, ◌≤◌, ◌<◌, ℕ, true, drop}
use Rattle.who.specs.Good.{numbers, good_station}
use Rattle.who.specs.Inner.{word_of}
use Rattle.who.specs.Row.{station_in}
use Rattle.who.proofs.lent.roll_call.Given as goal

abbrev pub invariant-loop-n : goal.invariant-loop-n
invariant-loop-n l = record {
  each : (k : ℕ) → l.n ≤ k → k < numbers → good_station k (station_in l.row k) ≡ true;
  word_is : l.word ≡ word_of (drop l.n l.row);
}
