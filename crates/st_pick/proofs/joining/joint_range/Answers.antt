use Rattle.std.proofs.Common.{◌-◌, sym, ap, ◌∙◌, cond, arith}
use Rattle.st_base.specs.Bytes.{below}
use Rattle.st_base.specs.declared.running.Ranged.{Ranged}
use Rattle.st_pick.proofs.Jointly.{joint_more}
use Rattle.st_pick.proofs.joining.joint_range.Goals as goal

pub loop-index-preserved : goal.loop-index-preserved
loop-index-preserved c = record {
  index = let lt = c.loop-index.invariant.index in omega arith;
  joint = joint_more c.args.tables.now (c.loop-index.index - 1) c.loop-index.index c.index-tables-index-in-loop-index.result c.loop-index.first.now c.loop-index.last.now c.lesser-first.result.now c.greater-last.result.now
      (omega arith) c.loop-index.invariant.index c.index-tables-index-in-loop-index.is c.loop-index.invariant.joint
      (c.lesser-first.ensures ∙ ap (λ (t : Ranged). cond (below c.loop-index.first.now t.range.first) c.loop-index.first.now t.range.first) (sym c.index-tables-index-in-loop-index.is))
      (c.greater-last.ensures ∙ ap (λ (t : Ranged). cond (below t.range.last c.loop-index.last.now) c.loop-index.last.now t.range.last) (sym c.index-tables-index-in-loop-index.is));
}
