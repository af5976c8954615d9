use Rattle.std.proofs.Common.{[], sym, ◌∙◌, arith}
use Rattle.st_order.specs.Order.{between}
use Rattle.job_model.specs.Level.{output_meets}
use Rattle.st_overlap.proofs.Loops.{found_here, one_more, none_there}
use Rattle.st_overlap.proofs.overlap.meets_running.Goals as goal

pub returns-then-output_meets : goal.returns-then-output_meets
returns-then-output_meets c = found_here (output_meets c.args.level (between c.args.first.now c.args.last.now)) c.args.running.now c.loop-index.index (record { inputs = []; level = 0; range = between [] [] }) c.index-running-index.result (omega arith) c.index-running-index.is c.loop-index.invariant (sym c.output_meets.ensures ∙ c.if-output_meets.true)

pub loop-index-preserved : goal.loop-index-preserved
loop-index-preserved c = one_more (output_meets c.args.level (between c.args.first.now c.args.last.now)) c.args.running.now c.loop-index.index (record { inputs = []; level = 0; range = between [] [] }) c.index-running-index.result (omega arith) c.index-running-index.is c.loop-index.invariant (sym c.output_meets.ensures ∙ c.if-output_meets.false)

pub returns : goal.returns
returns c = none_there (output_meets c.args.level (between c.args.first.now c.args.last.now)) c.args.running.now c.loop-index.index (record { inputs = []; level = 0; range = between [] [] }) (omega arith) c.loop-index.invariant
