use Rattle.table_writer.proofs.Writing.{new_keeps, none_is}
use Rattle.table_writer.proofs.writer.TableWriter.new.Goals as goal

pub invariant_of-result : goal.invariant_of-result
invariant_of-result c =
    new_keeps c.args.kind c.new-3.result c.in_ok-block.block c.in_ok-index.index c.new-3.ensures (none_is c.in_ok-block.block 16 c.in_ok-block.ensures.holds c.in_ok-block.ensures.interval) (none_is c.in_ok-index.index 1 c.in_ok-index.ensures.holds c.in_ok-index.ensures.interval)
