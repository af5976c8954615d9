use Rattle.std.proofs.Common.{◌≡◌, drop, map}
use Rattle.store_image.specs.Opens.{unrisen}
use Rattle.opening_checks.specs.Logs.{op_of}
use Rattle.opening_checks.proofs.logs.unrisen.Given as goal

abbrev pub invariant-loop-operation : goal.invariant-loop-operation
invariant-loop-operation l =
    unrisen l.last (map op_of l.operations) ≡ unrisen l.before (map op_of (drop l.operation-index l.operations))
