use Rattle.std.proofs.Common.{◌≡◌, ◌-◌, ◌≤◌, drop, map}
use Rattle.std.specs.Prelude.{flat_map}
use Rattle.st_order.specs.Columns.{column}
use Rattle.job_model.specs.Column.{found_at}
use Rattle.st_base.specs.Levels.{levels_of}
use Rattle.st_version.proofs.levels.in_levels.Given as goal

-- what is found is found in the levels that are left
abbrev pub invariant-loop-level : goal.invariant-loop-level
invariant-loop-level g l = record {
  low : 1 ≤ l.level;
  high : l.level ≤ 7;
  left : found_at l.number (column l.key (map g.T.Rows.rows (flat_map (λ tables. tables) (drop 1 (levels_of l.levels)))))
      ≡ found_at l.number (column l.key (map g.T.Rows.rows (flat_map (λ tables. tables) (drop l.level (levels_of l.levels)))));
}

abbrev pub decreases-loop-level : goal.decreases-loop-level
decreases-loop-level g l = 7 - l.level
