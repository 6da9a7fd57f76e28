use Rattle.site.specs.Layout.{partitions}
use native.Mathlib.Omega.{arith}
use mathlib.Core.Path.{ap}
use Rattle.site.proofs.Site.partition_password_is.Goals as goal

pub password_is-requires : goal.password_is-requires
password_is-requires c = omega (arith, c.requires, c.rows.ensures.3, c.partitions.result.counted, ap partitions c.partitions.ensures)

pub returns : goal.returns
returns c =
    let r = c.rows.ensures in
    record { answer = rw (r.0, r.1, r.2, c.partitions.result.begins, c.partitions.ensures) at c.password_is.ensures }
