use Rattle.std.proofs.Common.{◌≡◌, take}
use Rattle.st_base.specs.Entries.{add_charge}
use Rattle.st_model.specs.Apply.{write_charge}
use Rattle.st_core.proofs.operations.charge_with.Given as goal

abbrev pub invariant-loop-op : goal.invariant-loop-op
invariant-loop-op l = l.sum ≡ add_charge l.fn.charge (write_charge (take l.op-index l.ops))
