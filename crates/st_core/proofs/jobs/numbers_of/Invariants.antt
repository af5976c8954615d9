use Rattle.std.proofs.Common.{◌≡◌, map, take}
use Rattle.st_core.proofs.jobs.numbers_of.Given as goal

abbrev pub invariant-loop-one : goal.invariant-loop-one
invariant-loop-one l = l.numbers ≡ map (λ one. one.number) (take l.one-index l.live)
