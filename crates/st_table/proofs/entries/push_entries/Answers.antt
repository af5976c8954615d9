use Rattle.std.proofs.Common.{List, sym, ap}
use Rattle.st_block.specs.Block.{Cell}
use Rattle.st_table.specs.DataBlocks.{last_cell_key}
use Rattle.st_table.specs.Entries.{with_entries}
use Rattle.st_table.proofs.entries.push_entries.Goals as goal

pub loop-entry-init : goal.loop-entry-init
loop-entry-init c = record {
  stands = c.start-at.ensures.stands c.args.scratch.now;
  rest = ap (λ (cells : List Cell). with_entries c.args.kind c.args.entries.now cells) (sym c.start-at.ensures.value);
  rows = λ rows. rows;
  last = ap (λ (cells : List Cell). last_cell_key c.args.scratch.now cells) (sym c.start-at.ensures.value);
}
