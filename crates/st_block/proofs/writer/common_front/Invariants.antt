use Rattle.std.proofs.Common.{◌≡◌, ◌+◌, ◌-◌, ◌≤◌, length, drop}
use Rattle.std.specs.Prelude.{nat_eq}
use Rattle.std.specs.List.{common_prefix_len}
use Rattle.st_block.proofs.writer.common_front.Given as goal

abbrev pub invariant-loop-index : goal.invariant-loop-index
invariant-loop-index l = record {
  one_in : l.index ≤ length l.one;
  other_in : l.index ≤ length l.other;
  alike : common_prefix_len nat_eq l.one l.other ≡ l.index + common_prefix_len nat_eq (drop l.index l.one) (drop l.index l.other);
}

abbrev pub decreases-loop-index : goal.decreases-loop-index
decreases-loop-index l = length l.initial.one - l.index
