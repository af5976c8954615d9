use Rattle.std.proofs.Common.{◌-◌, ◌≤◌, length}
use Rattle.st_compact.specs.Search.{numbers_below}
use Rattle.st_compact.proofs.searches.numbers_below.Given as goal

abbrev pub invariant-loop-low : goal.invariant-loop-low
invariant-loop-low l = record {
  top : l.high ≤ length l.live;
  low_is : l.low ≤ numbers_below l.number l.live;
  high_is : numbers_below l.number l.live ≤ l.high;
}

abbrev pub decreases-loop-low : goal.decreases-loop-low
decreases-loop-low l = l.high - l.low
