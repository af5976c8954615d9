use Rattle.std.proofs.Common.{List, sym, ap}
use Rattle.st_block.specs.Block.{Cell}
use Rattle.st_table.specs.Metaindex.{value_named}
use Rattle.st_table.proofs.metaindex.named_in.Goals as goal

pub loop-entry-init : goal.loop-entry-init
loop-entry-init c = record {
  stands = c.start-at.ensures.stands c.args.scratch.now;
  rest = ap (λ (cells : List Cell). value_named c.args.name.now c.args.block.now.end cells) (sym c.start-at.ensures.value);
}
