use Rattle.std.proofs.Common.{◌≡◌, [], ◌∷◌, map, drop}
use Rattle.std.specs.Prelude.{find}
use Rattle.st_pick.specs.Picked.{is_free_of_jobs, with_meeting}
use Rattle.st_base.specs.declared.running.Ranged.{Ranged}
use Rattle.st_pick.proofs.picking.first_free.Given as goal

abbrev pub invariant-loop-table : goal.invariant-loop-table
invariant-loop-table l =
    find (is_free_of_jobs l.running l.lowest l.level) (map (λ (table : Ranged). with_meeting (table ∷ []) l.next) (drop l.table-index l.tables))
    ≡ find (is_free_of_jobs l.running l.lowest l.level) (map (λ (table : Ranged). with_meeting (table ∷ []) l.next) l.tables)
