use Rattle.std.proofs.Common.{◌≡◌, drop}
use Rattle.st_order.specs.Columns.{column}
use Rattle.job_model.specs.Column.{found_at}
use Rattle.st_version.specs.Held.{entries_in}
use Rattle.st_version.proofs.finding.in_memtables.Given as goal

-- what is found is found in the memtables that are left
abbrev pub invariant-loop-mem : goal.invariant-loop-mem
invariant-loop-mem l = found_at l.number (column l.key (entries_in l.memtables)) ≡ found_at l.number (column l.key (entries_in (drop l.mem-index l.memtables)))
