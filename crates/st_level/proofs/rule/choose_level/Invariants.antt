use Rattle.std.proofs.Common.{◌≡◌, map, drop}
use Rattle.st_order.specs.Order.{between}
use Rattle.st_level.specs.Stops.{runs_of_levels}
use Rattle.job_model.specs.Level.{walk_from}
use Rattle.st_level.proofs.rule.choose_level.Given as goal

abbrev pub invariant-loop-level : goal.invariant-loop-level
invariant-loop-level g l =
    walk_from l.running (between l.first l.last) l.lowest 0 0 (runs_of_levels g.T.Rows.rows l.levels)
    ≡ walk_from l.running (between l.first l.last) l.lowest l.found l.level (drop l.level (runs_of_levels g.T.Rows.rows l.levels))
