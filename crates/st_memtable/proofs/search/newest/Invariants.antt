use Rattle.std.proofs.Common.{◌≡◌, take}
use Rattle.std.specs.Prelude.{find}
use Rattle.std.specs.Option.{option_copied}
use Rattle.st_order.specs.Sorted.{joined, sorted}
use Rattle.st_memtable.specs.Runs.{suits}
use Rattle.st_memtable.proofs.search.newest.Given as goal

abbrev pub invariant-loop-run : goal.invariant-loop-run
invariant-loop-run l = option_copied l.found ≡ find (suits l.key l.number) (sorted (joined (take l.run-index l.runs)))
