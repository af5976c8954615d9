use Rattle.std.proofs.Common.{◌≡◌, map, take}
use Rattle.log_engine.specs.Op.{logged_op}
use Rattle.log_engine.proofs.ops.logged_ops.Given as goal

abbrev pub invariant-loop-op : goal.invariant-loop-op
invariant-loop-op l = l.operations.items ≡ map logged_op (take l.op-index l.ops)
