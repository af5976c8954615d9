use Rattle.std.proofs.Common.{◌≡◌, take}
use Rattle.std.specs.Prelude.{find}
use Rattle.std.specs.Option.{option_copied}
use Rattle.st_order.specs.Sorted.{joined, sorted}
use Rattle.st_order.specs.Order.{between}
use Rattle.st_memtable.specs.Runs.{lies_in}
use Rattle.st_memtable.proofs.search.first_of.Given as goal

abbrev pub invariant-loop-run : goal.invariant-loop-run
invariant-loop-run l = option_copied l.found ≡ find (lies_in (between l.first l.last)) (sorted (joined (take l.run-index l.runs)))
