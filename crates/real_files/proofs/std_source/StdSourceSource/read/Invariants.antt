use Rattle.std.proofs.Common.{◌≡◌}
use Rattle.real_files.proofs.std_source.StdSourceSource.read.Given as goal

-- no fault is counted before the last try
abbrev pub invariant-loop : goal.invariant-loop
invariant-loop g l = l.self.faults.count ≡ l.fn.self.faults.count
