use Rattle.std.proofs.Common.{take}
use Rattle.st_version.specs.Held.{tables_of}
use Rattle.st_version.specs.Replace.{AreTables}
use Rattle.opening_checks.proofs.meeting.know_tables.Given as goal

abbrev pub invariant-loop-table : goal.invariant-loop-table
invariant-loop-table g l = AreTables (tables_of (take l.table-index l.tables))
