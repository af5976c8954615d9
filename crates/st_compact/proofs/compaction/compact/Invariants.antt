use Rattle.std.proofs.Common.{◌≡◌, length, map}
use Rattle.st_order.specs.Sorted.{merged}
use Rattle.st_compact.specs.Cut.{IsCutSoFar}
use Rattle.st_compact.specs.Kept.{kept_in_all}
use Rattle.st_compact.specs.Pass.{pass_all}
use Rattle.st_compact.proofs.compaction.compact.Given as goal

abbrev pub invariant-loop-entry_index : goal.invariant-loop-entry_index
invariant-loop-entry_index g l = record {
  runs : l.merge.runs ≡ map g.T.Rows.rows l.inputs;
  cut : IsCutSoFar l.keeper.tables;
  target : l.keeper.tables.target ≡ l.target;
  live : l.keeper.live.now ≡ l.live;
  drops : l.keeper.drops.now ≡ l.drops;
  left : kept_in_all l.keeper l.merge.rest ≡ pass_all l.live l.drops (merged (map g.T.Rows.rows l.inputs));
}

abbrev pub decreases-loop-entry_index : goal.decreases-loop-entry_index
decreases-loop-entry_index g l = length l.merge.rest
