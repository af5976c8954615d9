use Rattle.std.proofs.Common.{◌≡◌, ◌-◌, ◌≤◌, ◌++◌, map, take}
use Rattle.core_model.specs.Picture.{runs_of, tables_in}
use Rattle.st_base.specs.Levels.{levels_of}
use Rattle.st_version.specs.Held.{tables_of}
use Rattle.st_version.specs.Run.{entries_of_run}
use Rattle.st_version.proofs.parts.push_levels.Given as goal

abbrev pub invariant-loop-level : goal.invariant-loop-level
invariant-loop-level g l = record {
  high : l.level ≤ 7;
  parts : map entries_of_run l.list.items ≡ map entries_of_run l.fn.list.items ++ runs_of (tables_in (map tables_of (take l.level (levels_of l.levels))));
}

abbrev pub decreases-loop-level : goal.decreases-loop-level
decreases-loop-level g l = 7 - l.level
