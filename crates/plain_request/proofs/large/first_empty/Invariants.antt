use Rattle.std.proofs.Common.{◌≡◌, ◌+◌, drop}
use Rattle.plain_request.specs.Large.{first_empty}
use Rattle.plain_request.proofs.large.first_empty.Given as goal

abbrev pub invariant-loop-index : goal.invariant-loop-index
invariant-loop-index l = first_empty 1 l.arguments ≡ first_empty (l.index + 1) (drop l.index l.arguments)
