use Rattle.std.proofs.Common.{◌≡◌, ◌-◌}
use Rattle.job_model.specs.Pick.{pick_from}
use Rattle.st_pick.specs.Picked.{itself, picked_tables, tables_of_levels}
use Rattle.st_pick.proofs.picking.pick.Given as goal

abbrev pub invariant-loop-level : goal.invariant-loop-level
invariant-loop-level l = pick_from itself l.running l.lowest (tables_of_levels l.levels) (4 - l.level) l.level ≡ picked_tables l.running l.lowest l.levels
