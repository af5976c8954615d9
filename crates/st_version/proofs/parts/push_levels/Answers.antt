use Rattle.std.proofs.Common.{map, arith}
use Rattle.st_base.specs.Levels.{levels_of}
use Rattle.st_version.specs.Run.{entries_of_run}
use Rattle.st_version.proofs.Steps.{levels_more}
use Rattle.st_version.proofs.parts.push_levels.Goals as goal

pub loop-level-preserved : goal.loop-level-preserved
loop-level-preserved g c = record {
  high = omega arith;
  parts = levels_more (map entries_of_run c.args.list.now.items) (levels_of c.args.levels.now) c.loop-level.level c.at.result.now (map entries_of_run c.loop-level.list.items) (map entries_of_run c.push_tables.new.list.items)
      c.at.ensures c.loop-level.invariant.parts c.in_ok-push_tables.ensures;
}
