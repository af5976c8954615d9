use Rattle.std.proofs.Common.{◌≡◌, ◌-◌, ◌≤◌, map, take}
use Rattle.core_model.specs.Picture.{tables_in}
use Rattle.st_base.specs.Levels.{levels_of}
use Rattle.st_version.specs.Held.{tables_of}
use Rattle.opening_checks.proofs.unfallen.upper_tables.Given as goal

abbrev pub invariant-loop-level : goal.invariant-loop-level
invariant-loop-level g l = record {
  high : l.level ≤ 6;
  tables : tables_of l.tables.items ≡ tables_in (take l.level (map tables_of (levels_of l.levels)));
}

abbrev pub decreases-loop-level : goal.decreases-loop-level
decreases-loop-level g l = 6 - l.level
