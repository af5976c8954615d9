use Rattle.st_core.proofs.Flushes.{front_is, none_newer}
use Rattle.st_core.proofs.flush.newer_of.Goals as goal

pub returns-in-Some : goal.returns-in-Some
returns-in-Some c = front_is (λ mem. mem.value.entries) c.args.sealed.now c.in-Some.newer.now _ c.in-Some.ensures.cases.0

pub returns-in-None : goal.returns-in-None
returns-in-None c = none_newer c.args.sealed.now c.in-None.ensures.cases
