use Rattle.std.proofs.Common.{◌≡◌, take}
use Rattle.st_memtable.specs.Memtable.{least_number, lesser}
use Rattle.st_memtable.proofs.totals.least_more.Given as goal

abbrev pub invariant-loop-entry : goal.invariant-loop-entry
invariant-loop-entry l = l.least ≡ lesser l.fn.before (least_number (take l.entry-index l.entries))
