use Rattle.std.proofs.Common.{◌≡◌, ◌++◌, take}
use Rattle.st_version.specs.Held.{entries_in}
use Rattle.st_core.proofs.flush.share_memtables.Given as goal

abbrev pub invariant-loop-mem : goal.invariant-loop-mem
invariant-loop-mem l = entries_in l.list ≡ entries_in l.fn.list ++ entries_in (take l.mem-index l.memtables)
