use Rattle.std.proofs.Common.{◌≡◌, ◌-◌, length}
use Rattle.session.proofs.PlayLaws.{Playing}
use Rattle.session.proofs.block.Session.play.Given as goal

abbrev pub invariant-loop-record : goal.invariant-loop-record
invariant-loop-record l =
    Playing l.input l.initial.self.index l.initial.self.site.now l.initial.self.locks l.initial.self.records l.initial.output l.self.locks l.self.records l.output l.at l.self.index l.used
    × (l.self.site.now ≡ l.initial.self.site.now)

abbrev pub decreases-loop-record : goal.decreases-loop-record
decreases-loop-record l = length l.input - l.at
