use Rattle.std.proofs.Common.{◌≡◌, ◌+◌, drop}
use Rattle.core_model.specs.Step.{with_operations}
use Rattle.st_core.specs.Written.{AreWithin}
use Rattle.st_core.proofs.families.Families.with_each.Given as goal

abbrev pub invariant-loop-op : goal.invariant-loop-op
invariant-loop-op g l = record {
  rest : with_operations l.number (drop l.op-index l.ops) l.families ≡ with_operations l.fn.last l.ops l.fn.self;
  within : AreWithin l.number l.families;
  count : l.number ≡ l.fn.last + l.op-index;
}
