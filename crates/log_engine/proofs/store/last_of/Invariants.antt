use Rattle.std.proofs.Common.{◌≡◌, drop}
use Rattle.log_recover.specs.Opens.{last_number}
use Rattle.log_engine.proofs.store.last_of.Given as goal

abbrev pub invariant-loop-logged : goal.invariant-loop-logged
invariant-loop-logged l = last_number 0 l.operations ≡ last_number l.last (drop l.logged-index l.operations)
