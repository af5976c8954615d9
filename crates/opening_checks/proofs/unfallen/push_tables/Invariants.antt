use Rattle.std.proofs.Common.{◌≡◌, ◌++◌, take}
use Rattle.st_version.specs.Held.{tables_of}
use Rattle.opening_checks.proofs.unfallen.push_tables.Given as goal

abbrev pub invariant-loop-table : goal.invariant-loop-table
invariant-loop-table g l = tables_of l.list.items ≡ tables_of l.fn.list.items ++ tables_of (take l.table-index l.tables)
