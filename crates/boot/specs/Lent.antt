-- The structs of lent bytes as what they hold.
use Rattle.boot.specs.declared.Tables.{Tables as LentTables}
use Rattle.boot.specs.declared.Choice.{Choice as LentChoice}
use Rattle.boot.specs.Tables.{Tables, lent}
use Rattle.boot.specs.Honors.{flag_of}
use Rattle.boot.specs.Choice.{Choice, choice_of}

abbrev pub tables_of : LentTables → Tables
tables_of t = lent t.machines.now t.products.now t.users.now t.configurations.now t.systems.now t.directory.now

abbrev pub names_of : LentChoice → Choice
names_of c = choice_of (flag_of c.honor) c.names.now
