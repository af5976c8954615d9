use Rattle.core_laws.proofs.SortedRuns.{rows_sorted, sorted_rows}
use Rattle.core_laws.proofs.laws.rows_are_sorted_runs.Goals as goal

pub returns-clause-sorted : goal.returns-clause-sorted
returns-clause-sorted c = rows_sorted

pub returns-clause-rows : goal.returns-clause-rows
returns-clause-rows c = sorted_rows
