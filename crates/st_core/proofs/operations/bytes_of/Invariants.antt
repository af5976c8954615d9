use Rattle.std.proofs.Common.{◌≡◌, ◌+◌, take, length, min}
use Rattle.std.specs.Prelude.{◌-◌, ◌^◌, sum_by}
use Rattle.std.specs.List.{AllByRecursion as Each}
use Rattle.st_base.specs.Entries.{mark_length}
use Rattle.st_model.specs.Apply.{op_key, op_mark, op_entry}
use Rattle.core_model.specs.RelationParts.{FitsSizes}
use Rattle.st_core.proofs.operations.bytes_of.Given as goal

abbrev pub invariant-loop-op : goal.invariant-loop-op
invariant-loop-op l = record {
  value : l.bytes ≡ min (sum_by (λ op. length (op_key op) + mark_length (op_mark op)) (take l.op-index l.ops)) (2 ^ 64 - 1);
  fits : Each (λ op. FitsSizes (op_entry 0 op)) (take l.op-index l.ops);
}
