use Rattle.std.proofs.Common.{◌+◌}
use Rattle.st_level.specs.Stops.{runs_of_levels}
use Rattle.st_drops.specs.Covers.{TellsCover}
use Rattle.st_drops.proofs.Levels.{ranges_between}
use Rattle.st_drops.proofs.lower.cover_below.Given as goal

abbrev pub invariant-loop-lower : goal.invariant-loop-lower
invariant-loop-lower g l = TellsCover (ranges_between (runs_of_levels g.U.Rows.rows l.levels) (l.level + 1) l.lower) l.key l.cover
