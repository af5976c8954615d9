use Rattle.std.proofs.Common.{◌≡◌, ◌++◌, length, map}
use Rattle.job_model.specs.Drops.{drop_runs, lower_ranges_in, rising_keys}
use Rattle.st_level.specs.Stops.{runs_of_levels}
use Rattle.st_drops.specs.Left.{left}
use Rattle.st_drops.proofs.drops.drop_ranges.Given as goal

abbrev pub invariant-loop-drops : goal.invariant-loop-drops
invariant-loop-drops g l =
    l.drops.items ++ drop_runs (lower_ranges_in (runs_of_levels g.U.Rows.rows l.levels) l.level) (left l.search.bound (rising_keys (map g.T.Rows.rows l.inputs)))
    ≡ drop_runs (lower_ranges_in (runs_of_levels g.U.Rows.rows l.levels) l.level) (rising_keys (map g.T.Rows.rows l.inputs))

abbrev pub decreases-loop-drops : goal.decreases-loop-drops
decreases-loop-drops g l = length (left l.search.bound (rising_keys (map g.T.Rows.rows l.inputs)))
