use Rattle.std.proofs.Common.{◌≡◌, drop}
use Rattle.log_recover.specs.Opens.{first_log_fault}
use Rattle.log_recover.proofs.recovery.first_fault.Given as goal

abbrev pub invariant-loop-logged : goal.invariant-loop-logged
invariant-loop-logged l = first_log_fault 0 l.operations ≡ first_log_fault l.last (drop l.logged-index l.operations)
