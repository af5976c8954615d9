use Rattle.std.proofs.Common.{◌-◌, ◌≤◌, length}
use Rattle.st_base.specs.Rows.{lower_index}
use Rattle.st_memtable.specs.Runs.{values}
use Rattle.st_memtable.proofs.search.lower_in.Given as goal

abbrev pub invariant-loop-low : goal.invariant-loop-low
invariant-loop-low l = record {
  top : l.high ≤ length l.run;
  low_is : l.low ≤ lower_index (values l.run) l.key l.number;
  high_is : lower_index (values l.run) l.key l.number ≤ l.high;
}

abbrev pub decreases-loop-low : goal.decreases-loop-low
decreases-loop-low l = l.high - l.low
