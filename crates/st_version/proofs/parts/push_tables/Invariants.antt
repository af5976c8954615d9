use Rattle.std.proofs.Common.{◌≡◌, ◌++◌, map, take}
use Rattle.core_model.specs.Picture.{runs_of}
use Rattle.st_version.specs.Held.{tables_of}
use Rattle.st_version.specs.Run.{entries_of_run}
use Rattle.st_version.proofs.parts.push_tables.Given as goal

abbrev pub invariant-loop-table : goal.invariant-loop-table
invariant-loop-table g l = map entries_of_run l.list.items ≡ map entries_of_run l.fn.list.items ++ runs_of (tables_of (take l.table-index l.tables))
