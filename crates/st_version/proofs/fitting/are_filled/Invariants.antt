use Rattle.std.proofs.Common.{◌≡◌, take}
use Rattle.std.specs.List.{AllByRecursion as Each}
use Rattle.core_model.specs.RelationParts.{HasEntry}
use Rattle.st_version.specs.Held.{tables_of}
use Rattle.st_version.proofs.fitting.are_filled.Given as goal

abbrev pub invariant-loop-table : goal.invariant-loop-table
invariant-loop-table g l = Each HasEntry (tables_of (take l.table-index l.tables))
