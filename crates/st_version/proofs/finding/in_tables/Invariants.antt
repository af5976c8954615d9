use Rattle.std.proofs.Common.{◌≡◌, drop, map}
use Rattle.st_order.specs.Columns.{column}
use Rattle.job_model.specs.Column.{found_at}
use Rattle.st_version.proofs.finding.in_tables.Given as goal

-- what is found is found in the tables that are left
abbrev pub invariant-loop-table : goal.invariant-loop-table
invariant-loop-table g l = found_at l.number (column l.key (map g.T.Rows.rows l.tables)) ≡ found_at l.number (column l.key (map g.T.Rows.rows (drop l.table-index l.tables)))
