use Rattle.st_block.proofs.Offsets.{rises_more}
use Rattle.st_block.proofs.tail.are_restarts.Goals as goal
use Rattle.std.proofs.Common.{arith}

pub loop-index-preserved : goal.loop-index-preserved
loop-index-preserved c =
    rises_more c.args.text.now c.args.at c.args.count c.loop-index.index c.loop-index.last c.fixed32_in-offset.result _ (omega arith) c.fixed32_in-offset.ensures (omega arith) c.loop-index.invariant
