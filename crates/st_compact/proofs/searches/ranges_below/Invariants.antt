use Rattle.std.proofs.Common.{◌-◌, ◌≤◌, length}
use Rattle.st_compact.specs.Search.{ranges_below}
use Rattle.st_compact.proofs.searches.ranges_below.Given as goal

abbrev pub invariant-loop-low : goal.invariant-loop-low
invariant-loop-low l = record {
  top : l.high ≤ length l.ranges;
  low_is : l.low ≤ ranges_below l.key l.ranges;
  high_is : ranges_below l.key l.ranges ≤ l.high;
}

abbrev pub decreases-loop-low : goal.decreases-loop-low
decreases-loop-low l = l.high - l.low
