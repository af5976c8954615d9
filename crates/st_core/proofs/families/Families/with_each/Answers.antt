use Rattle.std.proofs.Common.{◌+◌, sym, subst, ◌∙◌, arith}
use Rattle.st_core.specs.Written.{AreWithin}
use Rattle.st_core.proofs.Written.{next_op, written_within, below_next}
use Rattle.st_core.proofs.families.Families.with_each.Goals as goal

pub write-requires : goal.write-requires
write-requires g c = below_next c.loop-op.number c.loop-op.families c.loop-op.invariant.within

pub loop-op-preserved : goal.loop-op-preserved
loop-op-preserved g c = record {
  rest = next_op c.loop-op.number c.loop-op.op-index c.args.ops.now c.op-item.result c.loop-op.families c.write.new.self c.loop-op-test.true c.op-item.is c.in_ok-write.ensures ∙ c.loop-op.invariant.rest;
  within = subst (AreWithin (c.loop-op.number + 1)) (sym c.in_ok-write.ensures) (written_within c.loop-op.number c.op-item.result c.loop-op.families c.loop-op.invariant.within);
  count = omega (arith, c.loop-op.invariant.count);
}
