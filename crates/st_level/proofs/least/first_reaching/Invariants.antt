use Rattle.std.proofs.Common.{◌-◌, ◌≤◌, length, map}
use Rattle.job_model.specs.ByKey.{runs_before}
use Rattle.st_level.proofs.least.first_reaching.Given as goal

abbrev pub invariant-loop-low : goal.invariant-loop-low
invariant-loop-low g l = record {
  top : l.high ≤ length l.tables;
  low_is : l.low ≤ runs_before l.key (map g.T.Rows.rows l.tables);
  high_is : runs_before l.key (map g.T.Rows.rows l.tables) ≤ l.high;
}

abbrev pub decreases-loop-low : goal.decreases-loop-low
decreases-loop-low g l = l.high - l.low
