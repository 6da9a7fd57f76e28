use Rattle.std.proofs.Common.{◌≡◌, drop}
use Rattle.who.specs.Good.{stations_of}
use Rattle.who.specs.Inner.{word_of}
use Rattle.who.proofs.lent.word_of.Given as goal

abbrev pub invariant-loop-n : goal.invariant-loop-n
invariant-loop-n l = l.word ≡ word_of (drop l.n (stations_of l.records))
