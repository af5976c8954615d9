use Rattle.std.proofs.Common.{◌≡◌, take, length}
use Rattle.st_memtable.specs.Runs.{values}
use Rattle.st_memtable.proofs.single.+single.Given as goal

abbrev pub decreases-single : goal.decreases-single
decreases-single l = length l.entries.now

abbrev pub invariant-loop-entry : goal.invariant-loop-entry
invariant-loop-entry l = values l.run ≡ take l.entry-index l.entries
