use Rattle.std.proofs.Common.{◌≡◌, ◌+◌, drop}
use Rattle.job_model.specs.Pick.{charges}
use Rattle.st_pick.specs.Picked.{itself}
use Rattle.st_pick.proofs.picking.pass.Given as goal

abbrev pub invariant-loop-table : goal.invariant-loop-table
invariant-loop-table l = l.most + charges itself (drop l.table-index l.tables) ≡ l.room + charges itself l.tables
