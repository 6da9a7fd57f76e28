use Rattle.boot.specs.Systems.{system_rows, fits, system_size}
use Rattle.boot.proofs.SystemLaws.{size_small}
use Rattle.boot.proofs.ChoiceLaws.{lightest_starts, lightest_on, lightest_found, lightest_missed}
use Rattle.boot.proofs.systems.Systems.find_smallest.Goals as goal

pub loop-i-init : goal.loop-i-init
loop-i-init c =
    let s = c.args.self.now in
    lightest_starts (fits s.table.now s.directory.now s.wanted s.product) (system_size s.table.now s.directory.now) _ (λ i l. size_small s.table.now s.directory.now i s.bytes)

pub loop-i-preserved : goal.loop-i-preserved
loop-i-preserved c =
    let s = c.args.self.now in
    rw c.lighter-best.ensures (lightest_on (fits s.table.now s.directory.now s.wanted s.product) (system_size s.table.now s.directory.now) _ (λ i l. size_small s.table.now s.directory.now i s.bytes) c.loop-i.best c.size_of.result c.loop-i.invariant c.loop-i-test.true c.size_of.ensures)

pub returns-in-Some : goal.returns-in-Some
unfolding system_rows
returns-in-Some c =
    let s = c.args.self.now in
    lightest_found (fits s.table.now s.directory.now s.wanted s.product) (system_size s.table.now s.directory.now) _ (λ i l. size_small s.table.now s.directory.now i s.bytes) c.in-Some.b (rw c.in-Some.is at c.loop-i.invariant) c.loop-i-test.false

pub returns-in-None : goal.returns-in-None
unfolding system_rows
returns-in-None c =
    let s = c.args.self.now in
    lightest_missed (fits s.table.now s.directory.now s.wanted s.product) (system_size s.table.now s.directory.now) _ (λ i l. size_small s.table.now s.directory.now i s.bytes) (rw c.in-None.is at c.loop-i.invariant) c.loop-i-test.false
