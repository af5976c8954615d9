use Rattle.std.proofs.Common.{◌≡◌, map, take}
use Rattle.st_base.specs.declared.running.Ranged.{Ranged}
use Rattle.st_pick.proofs.picking.handed_out.Given as goal

abbrev pub invariant-loop-table : goal.invariant-loop-table
invariant-loop-table l = l.files ≡ take l.table-index (map (λ (table : Ranged). table.file) l.inputs)
