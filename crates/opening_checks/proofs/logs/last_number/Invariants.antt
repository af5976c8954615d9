use Rattle.std.proofs.Common.{◌≡◌, drop, map}
use Rattle.store_image.specs.Opens.{last_op}
use Rattle.opening_checks.specs.Logs.{op_of}
use Rattle.opening_checks.proofs.logs.last_number.Given as goal

abbrev pub invariant-loop-operation : goal.invariant-loop-operation
invariant-loop-operation l =
    last_op l.last (map op_of l.operations) ≡ last_op l.before (map op_of (drop l.operation-index l.operations))
