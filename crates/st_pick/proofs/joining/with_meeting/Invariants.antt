use Rattle.std.proofs.Common.{◌≡◌, ◌++◌, take}
use Rattle.std.specs.Prelude.{filter}
use Rattle.st_base.specs.Range.{meet}
use Rattle.st_base.specs.declared.running.Ranged.{Ranged}
use Rattle.st_pick.proofs.joining.with_meeting.Given as goal

abbrev pub invariant-loop-table : goal.invariant-loop-table
invariant-loop-table l = l.inputs ≡ l.fn.tables ++ filter (λ (table : Ranged). meet table.range l.range) (take l.table-index l.next)
