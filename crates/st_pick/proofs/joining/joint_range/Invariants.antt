use Rattle.std.proofs.Common.{◌≡◌, ◌<◌, length, drop}
use Rattle.st_order.specs.Order.{between}
use Rattle.st_pick.specs.Picked.{joint_range_of}
use Rattle.st_pick.proofs.joining.joint_range.Given as goal

abbrev pub invariant-loop-index : goal.invariant-loop-index
invariant-loop-index l = record {
  index : l.index < length l.tables;
  joint : joint_range_of (drop l.index l.tables) ≡ between l.first l.last;
}

abbrev pub decreases-loop-index : goal.decreases-loop-index
decreases-loop-index l = l.index
