-- The numbers of the refusals, as the rules list them.
use Rattle.std.specs.Prelude.{ℕ}
use Rattle.refusals.specs.declared.Refusal.{Refusal}
use Rattle.refusals.specs.declared.Refusal.TheVariants.{EmptyFrame, NobodysNumber, UnknownCode, WrongLength, Misplaced, WrongDtn, WrongSource, NoSuchPartition, OutsidePartition, BadSiteFile, BadTables, HeardTooEarly, ShortBuffer, StillWaiting, UnfitReply, NoSuchSize, DataTooLong, NoFlag, SevenOnes, NoWholeBytes, TooFewBytes, WrongCheck, BadBootTables}

abbrev pub number : Refusal → ℕ
number EmptyFrame = 1
number NobodysNumber = 2
number UnknownCode = 3
number WrongLength = 4
number Misplaced = 5
number WrongDtn = 6
number WrongSource = 7
number NoSuchPartition = 8
number OutsidePartition = 9
number BadSiteFile = 10
number BadTables = 11
number HeardTooEarly = 12
number ShortBuffer = 13
number StillWaiting = 14
number UnfitReply = 15
number NoSuchSize = 16
number DataTooLong = 17
number NoFlag = 18
number SevenOnes = 19
number NoWholeBytes = 20
number TooFewBytes = 21
number WrongCheck = 22
number BadBootTables = 23
