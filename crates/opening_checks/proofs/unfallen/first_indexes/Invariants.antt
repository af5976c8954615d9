use Rattle.std.proofs.Common.{◌≡◌, replicate}
use Rattle.opening_checks.proofs.unfallen.first_indexes.Given as goal

abbrev pub invariant-loop-table : goal.invariant-loop-table
invariant-loop-table g l = l.indexes.items ≡ replicate l._table-index 0
