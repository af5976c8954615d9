use Rattle.std.proofs.Common.{◌≡◌, take}
use Rattle.st_pick.proofs.joining.copies.Given as goal

abbrev pub invariant-loop-table : goal.invariant-loop-table
invariant-loop-table l = l.list ≡ take l.table-index l.tables
