use Rattle.std.proofs.Common.{◌≡◌, ◌++◌, map, take}
use Rattle.st_version.specs.Run.{entries_of_run}
use Rattle.st_version.proofs.parts.push_runs.Given as goal

abbrev pub invariant-loop-run : goal.invariant-loop-run
invariant-loop-run g l = map entries_of_run l.list.items ≡ map entries_of_run l.fn.list.items ++ take l.run-index l.runs
