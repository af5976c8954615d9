use Rattle.std.proofs.Common.{◌≡◌, ◌++◌, map, take}
use Rattle.std.specs.List.{AllByRecursion as Each}
use Rattle.st_order.specs.Sorted.{merged}
use Rattle.st_version.specs.Held.{runs_of_memtables}
use Rattle.st_version.specs.Run.{entries_of_run}
use Rattle.st_version.proofs.parts.push_memtables.Given as goal

abbrev pub invariant-loop-mem : goal.invariant-loop-mem
invariant-loop-mem g l = record {
  parts : map entries_of_run l.list.items ≡ map entries_of_run l.fn.list.items ++ runs_of_memtables (take l.mem-index l.memtables);
  whole : Each (λ mem. merged mem.value.runs ≡ mem.value.entries) (take l.mem-index l.memtables);
}
