use Rattle.std.proofs.Common.{◌-◌, ◌≤◌, length, map}
use Rattle.st_version.specs.ByKey.{started}
use Rattle.st_version.proofs.levels.started.Given as goal

abbrev pub invariant-loop-low : goal.invariant-loop-low
invariant-loop-low g l = record {
  top : l.high ≤ length l.tables;
  low_is : l.low ≤ started l.key (map g.T.Rows.rows l.tables);
  high_is : started l.key (map g.T.Rows.rows l.tables) ≤ l.high;
}

abbrev pub decreases-loop-low : goal.decreases-loop-low
decreases-loop-low g l = l.high - l.low
