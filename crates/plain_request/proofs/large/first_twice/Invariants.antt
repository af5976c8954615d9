use Rattle.std.proofs.Common.{◌≡◌, ◌+◌, [], drop}
use Rattle.plain_request.specs.Large.{first_twice}
use Rattle.plain_request.proofs.large.first_twice.Given as goal

abbrev pub invariant-loop-index : goal.invariant-loop-index
invariant-loop-index l =
    first_twice 1 [] l.arguments ≡ first_twice (l.index + 1) l.named.items (drop l.index l.arguments)
